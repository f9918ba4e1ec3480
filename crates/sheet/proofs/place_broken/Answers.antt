-- The four tests are `place_broken`'s, over the entry's words as they are read. Assumes nothing.
use Rattle.sheet.specs.Rules.{place_broken}
use Rattle.sheet.proofs.place_broken.Goals as goal

pub returns : goal.returns
unfolding place_broken
returns c = rw (c.wide.ensures.0, c.offset_at.ensures, c.length_at.ensures, c.inverted_at.ensures, c.length_of-length.ensures, c.kind_at.ensures, ← c.requires)
