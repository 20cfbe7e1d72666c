-- What a call's own cells are at its end, and what its caller sees.
use Rattle.std.specs.Prelude.{◌≡◌, ◌≤◌, ◌⊎◌, true, ℕ, List, [], ◌∷◌, Option, Some, None}
use Rattle.nim_types.specs.Forms.{Form, form_of}
use Rattle.nim_program.specs.Program.{Declared, Param}
use Rattle.nim_meaning.specs.Values.{Value, nothing, Standing, Location, at_base}
use Rattle.nim_meaning.specs.Marks.{Member}
use Rattle.nim_meaning.specs.State.{World}
use Rattle.nim_meaning.specs.Acts.{Exit, Raised}
use Rattle.nim_meaning.specs.Here.{Here}
use Rattle.holders.specs.Owned.{IsName}
use Rattle.holders.specs.Becoming.{taken_in, times}
use Rattle.holders.specs.Territory.{Owner, Moves, Among, MovesWith}
use Rattle.holders.specs.Working.{without}
use Rattle.holders.specs.Handing.{UnderWay, HandsOut}
use Rattle.holders.specs.Running.{Region}

abbrev pub param_cell : (here : Here) → Param → Owner
param_cell here param = record { form = form_of here.facts param.place.of; at = at_base (Standing here.level param.place.number) }

-- From these cells to those without the parameters' own. Any other parameter is a name, or stands for what has no hooks.
pub data ParamsEnd (r : Region) (here : Here) (start : World) : List Param → (before after : List Owner) → Type 0 where
  no_params : {ms : List Owner} → ParamsEnd r here start [] ms ms
  own_param : {param : Param} {params : List Param} {ms ns : List Owner} → ParamsEnd r here start params ms ns → r.places param.place.number ≡ true →
      (i : Among ns (param_cell here param)) → ParamsEnd r here start (param ∷ params) ms (without i)
  other_param : {param : Param} {params : List Param} {ms ns : List Owner} {l : Location} → ParamsEnd r here start params ms ns →
      (r.places param.place.number ≡ true → ⊥) → IsName start.frames here.level param.place.number l → ParamsEnd r here start (param ∷ params) ms ns

-- what is handed to the caller: the value of the result's cell, or nothing where there is none
pub data Result (here : Here) : List Owner → Option Form → Type 0 where
  gives_none : here.result ≡ None → Result here [] None
  gives_one : (place : Declared) → here.result ≡ Some place →
      Result here (record { form = form_of here.facts place.of; at = at_base (Standing here.level place.number) } ∷ []) (Some (form_of here.facts place.of))

-- what the caller sees: its cells, and the value
pub data CameBack (gs : List Owner) (old : List ℕ) (world : World) (v : Value) (after : World) : Option Form → Type 0 where
  without_value : Moves gs [] old world after → v ≡ nothing → CameBack gs old world v after None
  with_value : {f : Form} → HandsOut f gs [] old world v after → CameBack gs old world v after (Some f)

abbrev pub NotRaised : Exit → Type 0
NotRaised (Raised exception by) = ⊥
NotRaised way = Unit {0}

-- it is left, but not by an exception
abbrev pub LeftBy : (World → Type 0) → Exit → World → Type 0
LeftBy P way after = NotRaised way × P after

-- what a call that was given values with these blocks leaves, of all cells
pub data CallGives (os : List Owner) (given blocks : List ℕ) (world : World) (v : Value) (after : World) : Option Form → Type 0 where
  gives_nothing : Moves os given blocks world after → v ≡ nothing → CallGives os given blocks world v after None
  gives_value : {f : Form} {goes : ℕ → ℕ} (m : MovesWith (λ k. times k given) goes os given blocks world after) (u : UnderWay f v os m.territory.blocks after) →
      ((k : ℕ) → Member k u.given → Member k blocks ⊎ (Member k given ⊎ (taken_in world ≤ k))) → ((k : ℕ) → times k u.given ≡ goes k) →
      CallGives os given blocks world v after (Some f)
