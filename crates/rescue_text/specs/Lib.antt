-- What the contracts of `rescue_text` cite.
pub mod RescueText
