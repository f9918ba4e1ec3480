-- Rule 5 on a body, and rules 5 to 8 on a step. What a record's fields may be is said in the crate
-- of its kind; here stands what only the bytes show.
use Rattle.std.specs.Prelude.{ℕ, Bool, true, false, cond, ◌&&◌, List, eqb, length, Option, Some, None}
use Rattle.words.specs.Words.{word32, one_nan_at}
use Rattle.helmert.specs.Rules.{fields_in_rule_of, lacks_convention_of, lacks_epoch_of}
use Rattle.cart.specs.Record.{in_rule_of as cart_in_rule_of}
use Rattle.molodensky.specs.Record.{in_rule_of as molodensky_in_rule_of}
use Rattle.permtide.specs.Record.{in_rule_of as permtide_in_rule_of}
use Rattle.deformation.specs.Record.{in_rule_of as deformation_in_rule_of, neither_of}
use Rattle.badekas.specs.Rules.{fields_in_rule_of as badekas_in_rule_of, lacks_convention_of as badekas_lacks_convention_of}
use Rattle.bodies.specs.declared.Step.{Step}
use Rattle.bodies.specs.declared.Step.TheVariants.{Cart, Permtide, Deformation, Molodensky, Badekas, Helmert}
use Rattle.bodies.specs.Kinds.{by_kind, length_of}
use Rattle.bodies.specs.Read.{step_of}

-- ---- a step's record

-- rule 5, "a body field outside its rule": kept
unfoldable pub step_in_rule : Step → Bool
step_in_rule (Helmert h) = fields_in_rule_of h
step_in_rule (Cart r) = cart_in_rule_of r
step_in_rule (Molodensky r) = molodensky_in_rule_of r
step_in_rule (Permtide r) = permtide_in_rule_of r
step_in_rule (Deformation r) = deformation_in_rule_of r
step_in_rule (Badekas r) = badekas_in_rule_of r

-- rule 6, "rotated, convention none": broken
unfoldable pub lacks_convention : Step → Bool
lacks_convention (Helmert h) = lacks_convention_of h
lacks_convention (Cart r) = false
lacks_convention (Molodensky r) = false
lacks_convention (Permtide r) = false
lacks_convention (Deformation r) = false
lacks_convention (Badekas r) = badekas_lacks_convention_of r

-- rule 7, "dynamic, t_epoch not given": broken
unfoldable pub lacks_epoch : Step → Bool
lacks_epoch (Helmert h) = lacks_epoch_of h
lacks_epoch (Cart r) = false
lacks_epoch (Molodensky r) = false
lacks_epoch (Permtide r) = false
lacks_epoch (Deformation r) = false
lacks_epoch (Badekas r) = false

-- rule 8, "neither dt nor t_epoch": broken
unfoldable pub lacks_duration : Step → Bool
lacks_duration (Helmert h) = false
lacks_duration (Cart r) = false
lacks_duration (Molodensky r) = false
lacks_duration (Permtide r) = false
lacks_duration (Deformation r) = neither_of r
lacks_duration (Badekas r) = false

-- ---- a body

-- Reserved words are 0, and a number that may be "not given" is written so in one way only:
-- Helmert's t_epoch and t_obs, deformation's dt and t_epoch. Kind 6 has neither.
unfoldable pub written_in_rule : ℕ → List ℕ → Bool
written_in_rule kind b =
    by_kind kind
    (one_nan_at b 232 && one_nan_at b 240)
    (eqb (word32 b 4) 0)
    (eqb (word32 b 12) 0)
    (eqb (word32 b 12) 0)
    (one_nan_at b 8 && one_nan_at b 16)
    true
    false

-- rule 5 on the bytes of a body: its length is its kind's, it is written by the rule, and so are
-- the fields of its record
unfoldable pub body_in_rule : ℕ → List ℕ → Bool
body_in_rule kind b = eqb (length b) (length_of kind) && written_in_rule kind b && step_in_rule (step_of kind b)

-- the lowest of rules 5 to 8 that a body breaks; 0 where it keeps all four
unfoldable pub lowest_broken : ℕ → List ℕ → ℕ
lowest_broken kind b =
    cond (body_in_rule kind b)
    (cond (lacks_convention (step_of kind b)) 6
    (cond (lacks_epoch (step_of kind b)) 7
    (cond (lacks_duration (step_of kind b)) 8 0)))
    5

-- ---- what the code asks of a body, whichever kind it is of

-- a rule's number as an answer, none where it is 0
unfoldable pub some_rule : ℕ → Option ℕ
some_rule n = cond (eqb n 0) None (Some n)

-- the lowest rule that a body breaks, by its kind's length, its record, rule 5 on the bytes and on
-- the record, and the lowest of the later rules
unfoldable pub lowest_of : {A : Type 0} → ℕ → (List ℕ → A) → (List ℕ → Bool) → (A → Bool) → (A → ℕ) → List ℕ → ℕ
lowest_of n held written in_rule later b =
    cond (eqb (length b) n && (written b && in_rule (held b))) (later (held b)) 5
