-- The numbers of a part of a body: its nodes and its places rise, the places are some of the body's, and none is one that is named in it from outside.
use Rattle.std.specs.Prelude.{ℕ, suc, ◌+◌, ◌<◌, ◌≤◌, List, [], ◌∷◌}
use Rattle.nim_program.specs.Program.{Declared}
use Rattle.nim_program.specs.Numbering.{numbers_of}
use Rattle.nim_program.specs.Scopes as scopes
use Rattle.nim_meaning.specs.Marks.{Member}
use Rattle.nim_meaning.specs.Here.{Here}
use Rattle.holders.specs.Asked.{Limits}
use Rattle.holders.specs.BodyParts.{NoneNamed}

-- each is greater than the one before
abbrev pub Rise : ℕ → List ℕ → Type 0
Rise from [] = Unit {0}
Rise from (n ∷ ns) = (from ≤ n) × Rise (suc n) ns

pub record Numbered (here : Here) (first places : ℕ) (scope : scopes.Here) (limits : Limits) (declared : List Declared) (ns : List ℕ) : Type 0 where
  pub from_node : ℕ
  pub nodes : Rise from_node ns
  pub from_place : ℕ
  pub rises : Rise from_place (numbers_of declared)
  pub bounds : (n : ℕ) → Member n (numbers_of declared) → (first ≤ n) × (n < first + places)
  pub none : NoneNamed here scope limits (numbers_of declared)
