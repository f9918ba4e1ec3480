-- What the proof of `run` needs.
mod Blind
