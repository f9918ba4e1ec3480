-- What the contracts of `profile` cite, and the profile in words.
pub mod Profile
pub mod Chart
