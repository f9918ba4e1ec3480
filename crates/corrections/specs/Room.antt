-- Room for the longest list, in each of seven buffers.
use Rattle.std.specs.Prelude.{◌≤◌, List, length, Float}

pub record Roomy (list own results track old fresh-results fresh-track : List Float) : Type 0 where
  pub list-long : 8192 ≤ length list
  pub own-long : 8192 ≤ length own
  pub results-long : 8192 ≤ length results
  pub track-long : 8192 ≤ length track
  pub old-long : 8192 ≤ length old
  pub fresh-results-long : 8192 ≤ length fresh-results
  pub fresh-track-long : 8192 ≤ length fresh-track
