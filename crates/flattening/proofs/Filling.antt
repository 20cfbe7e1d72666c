-- Declared places are filled: by a value, by a copy, or by what they stand for.
use Rattle.std.proofs.Common.{◌≡◌, ℕ, ◌+◌, ◌≤◌, true, List, [], ◌∷◌, length, Some, refl, sym, ap, ◌∙◌, subst, arith}
use Rattle.nim_types.specs.Types.{Ty, Facts}
use Rattle.nim_types.specs.Forms.{form_of}
use Rattle.nim_program.specs.Program.{Declared}
use Rattle.nim_meaning.specs.Values.{Value, bytes, vacant, Slot, Holds, Stands as Stands_for, Location, Operand, At as AtPlace}
use Rattle.nim_meaning.specs.State.{World, State, slot_at, live}
use Rattle.nim_meaning.specs.Acts.{Outcome, On, Out, worked}
use Rattle.nim_meaning.specs.Here.{Here}
use Rattle.nim_meaning.specs.Lifted.{walk, copying}
use Rattle.nim_meaning.specs.Places.{place_at}
use Rattle.nim_meaning.specs.Deeds.{Deed, Opens, Changes, Gives, changed, carry, perform, behind as later_done, Done, Answers, Finishes, Fails, does as changes}
use Rattle.nim_meaning.specs.Deeds.{give, costs as deed_costs, ◌>>=◌}
use Rattle.nim_meaning.specs.Meaning.{fill, fill_from, place_copies}
use Rattle.flat_code.specs.declared.line.From.{From}
use Rattle.flat_code.specs.declared.line.Owning.TheVariants as W
use Rattle.flat_code.specs.declared.line.Line.{Line}
use Rattle.flat_code.specs.declared.line.Line.TheVariants as L
use Rattle.flat_code.specs.Scene.{Temps, Did, Passes}
use Rattle.flat_code.specs.Lines.{is_there, using, using_all}
use Rattle.flat_code.specs.Lines as does
use Rattle.flattening.specs.Numbering.{type_number}
use Rattle.flattening.proofs.Runs.{M, Runs, Shows, pays, known, lands, line, line_ends}
use Rattle.flattening.proofs.Deeds.{from, performed, answer_map, mapped}
use Rattle.flattening.proofs.Worlds.{Since, since_slot, since_then, slot_for, is_opened, still_holds}
use Rattle.flattening.proofs.Openings.{answering_all, SinceDone, since_done}
use Rattle.flattening.proofs.Spots.{Spot, here_of, there, scene, does_at, spent, stepped, goes}
use Rattle.flattening.proofs.Endings.{IsListed}

module _ (c : Spot) where
  abbrev facts : Facts
  facts = c.fixed.program.facts

  abbrev types : List Ty
  types = c.fixed.program.types

  abbrev here : Here
  here = here_of c

  -- behind that: the temporaries are the same, and the place is open
  abbrev pub Filled : (k : List Line) (temps : Temps) (world : World) (n : ℕ) → Outcome (Unit {0}) → State → M → Type 0
  Filled k temps world n (On u) b m =
      (m ≡ there c k temps b.world) × Since c.level world b.world × (is_there (slot_at b.world c.level n) ≡ true)
  Filled k temps world n (Out way) b m = ⊥

  abbrev pub HasRoom : World → ℕ → Type 0
  HasRoom world n = (is_there (slot_for world c.level n) ≡ true) × (c.level + 1 ≤ length world.frames)

  -- a line that opens a place, and then does something with it
  pub opens_performs : (l : Line) (k : List Line) (temps : Temps) (n : ℕ) (slot : Slot) (rest : Deed (Unit {0})) (s : State) → HasRoom s.world n →
      does_at c temps s.world l ≡ Passes (later_done [] 1 (perform (Changes (Opens c.level n slot) rest >>= (λ u. give temps)) s.world)) →
      Runs c.fixed (Filled k temps s.world n) 1 0 (there c (l ∷ k) temps s.world) s.meter (carry (Changes (Opens c.level n slot) rest) s)
  opens_performs l k temps n slot rest s room is =
      let m = there c (l ∷ k) temps s.world in
      let deed : Deed (Unit {0}) = Changes (Opens c.level n slot) rest in
      let mid = changed (Opens c.level n slot) s.world in
      record {
        it = subst (λ r. Shows c.fixed (Filled k temps s.world n) 1 0 m s.meter r) (sym (performed deed s))
            (on (perform deed s.world) (since_done (λ u. Unit {0}) c.level rest (answering_all (λ u. Unit {0}) (λ u. tt) rest) mid)
            (is ∙ ap (λ d. Passes (later_done [] 1 d)) (mapped (λ u. temps) deed s.world)));
      }
    where
      on : (done : Done (Unit {0})) → SinceDone (λ u. Unit {0}) c.level (changed (Opens c.level n slot) s.world) done → does_at c temps s.world l ≡ Passes
          (later_done [] 1 (answer_map (λ u. temps) done)) →
          Shows c.fixed (Filled k temps s.world n) 1 0 (there c (l ∷ k) temps s.world) s.meter (from s done)
      on (Answers es w v world) since e = (
        there c k temps world,
        line es (1 + w) (spent c l k temps s.world _ e) (stepped c l k temps s.world _ e) refl refl (omega arith),
        (
          refl,
          since_then (since_slot c.level s.world c.level n slot) since.0,
          still_holds c.level n (omega arith) since.0 (is_opened s.world c.level n slot room.0 (omega (arith, room.1))),
        ),
      )
      on (Finishes es w status world) since e =
          line_ends es (1 + w) status (live world) (spent c l k temps s.world _ e) (stepped c l k temps s.world _ e) refl (omega arith)
      on (Fails es w world) since e = tt

  -- by a copy
  pub copies_follow : (place : Declared) → IsListed types place.of → (from : From) (location : Location) (k : List Line) (temps : Temps) (s : State) →
      HasRoom s.world place.number → ((go : List Operand → Did) → using_all temps (from ∷ []) go ≡ go (AtPlace location ∷ [])) →
      Runs c.fixed (Filled k temps s.world place.number) 1 0
      (there c (L.Own (W.PlaceCopies place.number (type_number types place.of)) (from ∷ []) ∷ k) temps s.world) s.meter (fill_from here place location s)
  copies_follow place listed from location k temps s room fetched =
      let n = place.number in
      opens_performs _ k temps n (Holds (vacant (form_of facts place.of))) (walk copying (form_of facts place.of) (place_at c.level n) location) s room
      (fetched (λ xs. does.acts (scene c temps s.world) (deed_costs 1 (does.owns (known c.fixed) (W.PlaceCopies n (type_number types place.of)) c.level xs)))
      ∙ ap (λ ty. does.acts (scene c temps s.world) (deed_costs 1 (place_copies (form_of facts ty) c.level n location))) listed)

  -- by what it stands for
  pub stands_follow : (place : Declared) (from : From) (location : Location) (k : List Line) (temps : Temps) (s : State) → HasRoom s.world place.number →
      ((go : List Operand → Did) → using_all temps (from ∷ []) go ≡ go (AtPlace location ∷ [])) →
      Runs c.fixed (Filled k temps s.world place.number) 1 0
      (there c (L.Own (W.PlaceStands place.number) (from ∷ []) ∷ k) temps s.world) s.meter
      (carry (changes (Opens c.level place.number (Stands_for location))) s)
  stands_follow place from location k temps s room fetched =
      opens_performs _ k temps place.number (Stands_for location) (Gives tt) s room
      (fetched (λ xs. does.acts (scene c temps s.world) (deed_costs 1 (does.owns (known c.fixed) (W.PlaceStands place.number) c.level xs))))

  -- by a value
  pub fills_follow : (n : ℕ) (v : Value) (u : ℕ) (k : List Line) (temps : Temps) (s : State) → HasRoom s.world n → temps.values u ≡ Some v →
      Runs c.fixed (Filled k temps s.world n) 1 0 (there c (L.Fill n u ∷ k) temps s.world) s.meter (fill here n v s)
  fills_follow n v u k temps s room has =
      pays (1 + bytes v) (bytes v) (omega arith)
      (goes c 0 (1 + (bytes v + 0)) (omega arith) (ap (λ o. using o (λ v. does.acts (scene c temps s.world) (deed_costs 1 (does.fills c.level n v)))) has)
      (lands (On tt) (record (worked (bytes v) s) { world = changed (Opens c.level n (Holds v)) s.world }) (omega arith)
      (refl, since_slot c.level s.world c.level n (Holds v), is_opened s.world c.level n (Holds v) room.0 (omega (arith, room.1)))))
