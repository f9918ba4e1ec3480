-- What the contracts of `rescue` cite: the rebuilt sheet, the words that it changes, and when which
-- refusal is given; and what its laws speak of.
pub mod Rebuilt
pub mod Changes
pub mod Rules
pub mod Listed
