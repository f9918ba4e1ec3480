-- Calls are replaced by what they ensure; the definition is left. Assumes nothing.
use Rattle.std.proofs.Common.{◌≡◌, ap, ◌∙◌}
use Rattle.words.specs.Words.{word32}
use Rattle.tuple.specs.declared.Tuple.{Tuple}
use Rattle.ellipsoid.specs.Figure.{named_of}
use Rattle.geocart.specs.Geocart.{geographic_of}
use Rattle.vectors.specs.Replay.{differing_numbers, four, tuple_in, geographic_differing_of}
use Rattle.vectors.proofs.record.place.Goals as goal

pub returns : goal.returns
unfolding geographic_differing_of
returns c =
    let found : c.geographic-found.result ≡ geographic_of (named_of (word32 c.args.s.now 0)) (tuple_in c.args.s.now 8) = c.geographic-found.ensures ∙ rw (c.named.ensures, c.read32.ensures, c.number-4.ensures, c.number-3.ensures, c.number-2.ensures, c.number.ensures) in
    c.differing_numbers.ensures.0 ∙ ap (λ (v : Tuple). differing_numbers c.args.s.now 40 (four v)) found
