-- What the contracts of `closure_report` cite, and the sentences that its laws speak of.
pub mod Report
pub mod Sentences
