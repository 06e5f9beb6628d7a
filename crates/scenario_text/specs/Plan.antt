-- A scenario.
use Rattle.std.specs.Prelude.{⊤, ℕ, List, [], ◌∷◌, Option, Some, None}
use Rattle.stop_handlers.specs.declared.Rule.{Rule}
use Rattle.step_types.specs.{Plain.UserStep, Plain.PlainStep, Plain.map_handler, declared.Settings.Settings, declared.step.Step.Step, declared.step.Step.TheVariants.Install}

-- the settings of the host, and the steps in order
pub record Plan : Type 0 where
  pub settings : Settings
  pub steps : List UserStep

abbrev pub max_steps : ℕ
max_steps = 100000

abbrev pub asked : ℕ × PlainStep → UserStep
asked s = record { uid = s.0; step = s.1 }

-- the policies of the installs, in order
abbrev pub policy_before : PlainStep → List (List Rule) → List (List Rule)
policy_before (Install caller policy) others = policy ∷ others
policy_before s others = others

abbrev pub policies_in : List UserStep → List (List Rule)
policies_in [] = []
policies_in (a ∷ rest) = policy_before a.step (policies_in rest)

-- ---- steps with separate policies

-- the step with b in place of its handler, if it installs one
abbrev pub with_installed : {A : Type 0} {B : Type 0} → B → Step A → Step B
with_installed b s = map_handler (λ own. b) s

-- a user's step, with the policy in place of its handler, if it installs one
abbrev pub with_policy : List Rule → ℕ × Step ⊤ → UserStep
with_policy policy s = record { uid = s.0; step = with_installed policy s.1 }

abbrev pub first_policy : List (List Rule) → List Rule
first_policy [] = []
first_policy (policy ∷ others) = policy

abbrev pub other_policies : List (List Rule) → List (List Rule)
other_policies [] = []
other_policies (policy ∷ others) = others

-- the policies that remain after a step
abbrev pub policies_after : Step ⊤ → List (List Rule) → List (List Rule)
policies_after (Install caller own) policies = other_policies policies
policies_after s policies = policies

-- the steps, each install with the next policy
abbrev pub with_policies : List (ℕ × Step ⊤) → List (List Rule) → List UserStep
with_policies [] policies = []
with_policies (s ∷ rest) policies = with_policy (first_policy policies) s ∷ with_policies rest (policies_after s.1 policies)

abbrev pub first : List (List Rule) → Option (List Rule)
first [] = None
first (policy ∷ others) = Some policy

-- a step with its user
abbrev pub user_and_step : UserStep → ℕ × PlainStep
user_and_step a = (a.uid, a.step)
