-- The sites of a program: where its acts hand a value on, or borrow or copy it.
use Rattle.std.specs.Prelude.{◌⊎◌, ℕ, List, [], ◌∷◌, ◌++◌, Some, Contains}
use Rattle.nim_program.specs.Program.{Program}
use Rattle.nim_meaning.specs.Here.{is_hooked}
use Rattle.nim_meaning.specs.ActTree.{Act, Take, Lend, Control, Do, Choose, Loop, Group, Arms, No_arm, An_arm, Acts, Done, Then, Bind, Result}
use Rattle.nim_meaning.specs.ActsOf.{start_acts, procedure_acts}

-- A value is handed on at a consuming site, and borrowed or copied at a reading one.
abbrev pub site_of : Act → List ℕ
site_of (Take site to path) = site ∷ []
site_of (Lend (Some site) place path) = site ∷ []
site_of _ = []

abbrev mutual
  pub sites_at : Control → List ℕ
  sites_at (Do node role act) = site_of act
  sites_at (Choose node role arms) = sites_among arms
  sites_at (Loop node condition body) = sites_in condition ++ sites_in body
  sites_at (Group node role part) = sites_in part
  sites_at _ = []

  pub sites_among : Arms → List ℕ
  sites_among No_arm = []
  sites_among (An_arm arm rest) = sites_in arm ++ sites_among rest

  pub sites_in : Acts → List ℕ
  sites_in Done = []
  sites_in (Then first rest) = sites_at first ++ sites_in rest
  sites_in (Bind place last rest) = sites_in rest
  sites_in (Result place last rest) = sites_in rest

-- a site of a program, where these parameters became `sink` by inference: one of the start code or of a procedure
abbrev pub IsSite : Program → (sinks : List ℕ) → ℕ → Type 0
IsSite program sinks site =
    Contains (sites_in (start_acts (is_hooked program.facts) sinks program)) site
    ⊎ ((proc : ℕ) × Contains (sites_in (procedure_acts (is_hooked program.facts) sinks program proc)) site)
