-- One case for each way the word is matched. Assumes nothing.
use borrow.Author.Rules.{rules}
use Rattle.closure_page.specs.Page.{is_chart, profile_asked}
use Rattle.closure_page.proofs.profile_asked.Goals as goal

pub returns-in-empty : goal.returns-in-empty
unfolding is_chart profile_asked
returns-in-empty c = search rules

pub returns-in-chart : goal.returns-in-chart
unfolding is_chart profile_asked
returns-in-chart c = search rules

pub returns-in_default : goal.returns-in_default
unfolding is_chart profile_asked
returns-in_default c = search rules

pub returns-in_default-2 : goal.returns-in_default-2
unfolding is_chart profile_asked
returns-in_default-2 c = search rules

pub returns-in_default-3 : goal.returns-in_default-3
unfolding is_chart profile_asked
returns-in_default-3 c = search rules

pub returns-in_default-4 : goal.returns-in_default-4
unfolding is_chart profile_asked
returns-in_default-4 c = search rules

pub returns-in_default-5 : goal.returns-in_default-5
unfolding is_chart profile_asked
returns-in_default-5 c = search rules

pub returns-in_default-6 : goal.returns-in_default-6
unfolding is_chart profile_asked
returns-in_default-6 c = search rules

pub returns-in_default-7 : goal.returns-in_default-7
unfolding is_chart profile_asked
returns-in_default-7 c = search rules
