-- The four words of `entry_bytes`, at the entry's place. Assumes nothing.
use Rattle.rescue.specs.Rebuilt.{entry_bytes}
use Rattle.rescue.proofs.put_entry.Goals as goal

pub returns : goal.returns
unfolding entry_bytes
returns c =
    rw (
      c.put_words.ensures,
      c.length_of.ensures,
      c.inverted_word.ensures,
      c.kind_word-kind.ensures,
      c.requires.1.0,
    )
