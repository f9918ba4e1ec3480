-- The four words of `place_bytes`, at the entry's offset. Assumes nothing.
use Rattle.sheet_writer.specs.Bytes.{place_bytes}
use Rattle.sheet_writer.proofs.put_place.Goals as goal

pub returns : goal.returns
unfolding place_bytes
returns c =
    rw (
      c.put_words.ensures,
      c.length_of.ensures,
      c.entry_offset.ensures.0,
      c.kind_in-kind.ensures,
      c.entry_in-entry.ensures,
      c.requires.1.0,
    )
