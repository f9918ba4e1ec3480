-- What a plan makes of one tuple of a list, and where it then stands: the state, and the tally so
-- far. Velocities and marks are lent, and no grid.
use Rattle.std.specs.Prelude.{ℕ, Bool, cond, List, [], Float}
use Rattle.tuple.specs.declared.Tuple.{Tuple}
use Rattle.helmert.specs.declared.State.{State}
use Rattle.lists.specs.Run.{Turn}
use Rattle.tally.specs.declared.Tally.{Tally}
use Rattle.tally.specs.Tallies.{no_tally, plus_of}
use Rattle.plans.specs.declared.Plan.{Plan}
use Rattle.plans.specs.declared.Standing.{Standing}
use Rattle.plans.specs.Lent.{lent_of}
use Rattle.plans.specs.Plans.{plan_turns_of, plan_met_of, plan_start_of}
use Rattle.thin.specs.declared.Turned.{Turned}

abbrev pub begin_of : Plan → Standing
begin_of plan = record { state = plan_start_of plan; tally = no_tally }

abbrev pub tallied : Standing → Turn State → Bool → Turned
tallied at turn met =
    let one : Tally = record { count = cond turn.counted 1 0; met = cond met 1 0 } in
    record { carried = record { state = turn.state; tally = plus_of at.tally one }; tuple = turn.tuple }

unfoldable pub turn_of : List Float → List ℕ → Plan → ℕ → Standing → Tuple → Turned
turn_of velocities marks plan k at u =
    let lent = lent_of velocities marks [] in
    tallied at (plan_turns_of lent plan k at.state u) (plan_met_of lent plan k at.state u)
