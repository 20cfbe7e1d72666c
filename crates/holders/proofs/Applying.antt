-- An operation, behind its operands.
use Rattle.std.proofs.Common.{◌≡◌, refl, sym, ap, subst, ◌∙◌, arith, ℕ, suc, Bool, true, false, inl, inr, List, [], ◌∷◌, ◌++◌, Option}
use Rattle.std.proofs.lemmas.Bool.{and_right}
use Rattle.nim_types.specs.Types.{Ty, Facts}
use Rattle.nim_types.specs.Forms.{Form}
use Rattle.nim_program.specs.declared.program.Mode.{Mode}
use Rattle.nim_program.specs.declared.operation.Use.{Use}
use Rattle.nim_program.specs.declared.operation.Use.TheVariants.{Owned, Given as ToPlace, Held, Lent, Looked}
use Rattle.nim_program.specs.Program.{Expr, Args, NoArg, ByValue, ByPath, type_of, node_of}
use Rattle.nim_meaning.specs.Values.{Value, Base, Waiting}
use Rattle.nim_meaning.specs.Marks.{Member}
use Rattle.nim_meaning.specs.State.{World, State}
use Rattle.nim_meaning.specs.Deeds as deeds
use Rattle.nim_meaning.specs.Deeds.{Deed, carry}
use Rattle.nim_meaning.specs.Here.{Here, gives_hooked, form_for}
use Rattle.nim_meaning.specs.Waiting.{Wait, nodes_of, held_if, held_from}
use Rattle.nim_meaning.specs.Shapes.{is_held as is_held_use, waits}
use Rattle.nim_meaning.specs.Places.{kept_if}
use Rattle.holders.specs.Sure.{Sure, Comes}
use Rattle.holders.specs.Territory.{Owner, AllOwners, NoBaseOf}
use Rattle.holders.specs.Running.{Region, IsOutside}
use Rattle.holders.specs.Used.{Made}
use Rattle.holders.proofs.Sure.{sure_then, sure_weaker}
use Rattle.holders.proofs.Working.{all_both, all_so}
use Rattle.holders.proofs.Making.{row_so as made_row}
use Rattle.holders.proofs.Coming.{comes_carried}
use Rattle.holders.specs.Evaluating.{value_nodes, at_nodes, waits_inside, waits_itself, Begins, IsWaiting, Leaves, is_bare, is_held, is_waiting}
use Rattle.holders.proofs.PartsInTurn.{in_is}
use Rattle.holders.specs.Claimed.{NoExit, HasValue}
use Rattle.holders.proofs.Constants.{hooked_is}
use Rattle.holders.proofs.Table.{Out, OutOf}

-- a node of the part has no cell yet
pub node_off : {level first places : ℕ} {ns nodes : List ℕ} {os : List Owner} {start : World} (ws : List Wait) (ms : List Owner) (node : ℕ) →
    Begins level first places ns os nodes start → Member node ns → (Member node (nodes_of ws) → ⊥) → AllOwners (λ m. IsWaiting level ws m) ms →
    NoBaseOf (Waiting level node) (ms ++ os)
node_off {level} {ns = ns} {os = os} ws ms node b mine apart cells =
    all_both (λ o. Waiting level node ≡ o.at.base → ⊥) ms os
    (all_so (λ m. IsWaiting level ws m) (λ o. Waiting level node ≡ o.at.base → ⊥) ms
    (λ m w e. apart (subst (λ k. Member k (nodes_of ws)) (sym (same_node (e ∙ w.base))) w.among)) cells)
    (all_so (λ o. IsOutside (at_nodes level ns) o.at.base) (λ o. Waiting level node ≡ o.at.base → ⊥) os
    (λ o out e. inside (subst (λ c. IsOutside (at_nodes level ns) c) (sym e) out)) b.outside)
  where
    node_at : Base → ℕ
    node_at (Waiting l n) = n
    node_at c = 0

    same_node : {m : ℕ} → Waiting level node ≡ Waiting level m → node ≡ m
    same_node e = ap node_at e

    inside : IsOutside (at_nodes level ns) (Waiting level node) → ⊥
    inside (inl less) = omega (arith, less)
    inside (inr q) = q.1 (in_is node ns mine)

-- what has a use of its own: how its value waits, or goes on
pub record OwnWaits (here : Here) (e : Expr) (ty : Option Ty) : Type 0 where
  pub one : (how : Use) → waits how ≡ true → gives_hooked here.facts ty ≡ true →
      waits_itself here.facts here.modes e how ≡ record { node = (node_of e).number; of = ty; form = form_for here.facts ty } ∷ []
  pub none : (how : Use) → waits how ≡ false → waits_itself here.facts here.modes e how ≡ []
  pub plain : (how : Use) → gives_hooked here.facts ty ≡ false → waits_itself here.facts here.modes e how ≡ []

module _ (here : Here) (first places : ℕ) (os : List Owner) (e : Expr) (own_waits : OwnWaits here e (type_of e)) (nodes later old : List ℕ) (start : World)
    (ms : List Owner) (leaves : Leaves here.level nodes (waits_inside here.facts here.modes e) ms later) where
  abbrev R : Region
  R = at_nodes here.level (value_nodes e)

  abbrev f : Form
  f = form_for here.facts (type_of e)

  abbrev Has_value : Use → Value → World → Type 0
  Has_value how v now = HasValue here first places os e how nodes old start v now

  pub made_valued : (how : Use) {v : Value} {now : World} → gives_hooked here.facts (type_of e) ≡ true →
      Made how f (node_of e).number R ms os first places later old start v now → Has_value how v now
  made_valued Owned hooks m = is_held (inl refl) leaves (own_waits.none Owned refl) m
  made_valued ToPlace hooks m = is_held (inr refl) leaves (own_waits.none ToPlace refl) m
  made_valued Held hooks m = is_waiting leaves (own_waits.one Held refl hooks) m
  made_valued Lent hooks m = is_waiting leaves (own_waits.one Lent refl hooks) m
  made_valued Looked hooks m = is_waiting leaves (own_waits.one Looked refl hooks) m

  -- a row, and what becomes of its value
  pub row_valued : (how : Use) (deed : Deed Value) (s : State) → R.nodes (node_of e).number ≡ true →
      NoBaseOf (Waiting here.level (node_of e).number) (ms ++ os) →
      Sure deed (OutOf here.facts R ms os first places later old start (type_of e)) s.world →
      Comes (Has_value how) NoExit
      (carry (deeds.◌>>=◌ deed (kept_if (gives_hooked here.facts (type_of e)) (record { how = how; level = here.level; node = (node_of e).number }))) s)
  row_valued how deed s mine off h = by (gives_hooked here.facts (type_of e)) refl h
    where
      node : ℕ
      node = (node_of e).number

      by : (b : Bool) → gives_hooked here.facts (type_of e) ≡ b → Sure deed (λ v after. Out b f R ms os first places later old start v after) s.world →
          Comes (Has_value how) NoExit (carry (deeds.◌>>=◌ deed (kept_if b (record { how = how; level = here.level; node = node }))) s)
      by true hooks h =
          let made = deeds.◌>>=◌ deed (kept_if true (record { how = how; level = here.level; node = node })) in
          comes_carried (Has_value how) NoExit made s
          (sure_weaker made (Made how f node R ms os first places later old start) (Has_value how) s.world
          (made_row R ms os first places later old start f s.world how node deed mine off h)
          (λ v after m. made_valued how hooks m))
      by false unhooked h =
          let given = deeds.◌>>=◌ deed (kept_if false (record { how = how; level = here.level; node = node })) in
          comes_carried (Has_value how) NoExit given s
          (sure_then deed (λ v. deeds.give v) (λ v after. Out false f R ms os first places later old start v after) (Has_value how) s.world h
          (λ v after q. is_bare (inl (sym (hooked_is here.facts (type_of e)) ∙ unhooked)) leaves (own_waits.plain how unhooked) q.0 q.1))

-- ---- nothing is taken up

pub held_none : (facts : Facts) (modes : (proc position : ℕ) → Mode) (operands : Args) (uses : (position : ℕ) → Use) (i : ℕ) →
    ((j : ℕ) → is_held_use (uses j) ≡ false) → held_from facts modes operands uses i ≡ []
held_none facts modes NoArg uses i h = refl
held_none facts modes (ByValue value rest) uses i h =
    ap (λ b. held_if b (node_of value).number (held_from facts modes rest uses (suc i)))
    (and_right (gives_hooked facts (type_of value)) (is_held_use (uses i)) (h i))
    ∙ held_none facts modes rest uses (suc i) h
held_none facts modes (ByPath path rest) uses i h = held_none facts modes rest uses (suc i) h
