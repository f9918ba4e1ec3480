-- What the contracts of `closure_page` cite.
pub mod Page
