-- The value of a call, as its use asks.
use Rattle.std.proofs.Common.{◌≡◌, refl, sym, ap, subst, ◌∙◌, ℕ, Bool, true, false, inl, List, [], ◌++◌, None}
use Rattle.std.proofs.lemmas.Bool.{false≢true}
use Rattle.nim_types.specs.Forms.{Form, plain}
use Rattle.nim_program.specs.declared.operation.Use.{Use}
use Rattle.nim_program.specs.Program.{Expr, type_of, node_of}
use Rattle.nim_meaning.specs.Values.{Value, Waiting, nothing}
use Rattle.nim_meaning.specs.State.{World, State}
use Rattle.nim_meaning.specs.Deeds.{carry, give}
use Rattle.nim_meaning.specs.Here.{Here, gives_hooked, form_for}
use Rattle.nim_meaning.specs.Places.{kept, kept_if}
use Rattle.holders.specs.Owned.{Constant, Has, a_number}
use Rattle.holders.specs.Sure.{Comes}
use Rattle.holders.specs.Territory.{Owner, NoBaseOf}
use Rattle.holders.specs.Running.{Region}
use Rattle.holders.specs.Staging.{Stage, Holding}
use Rattle.holders.specs.Used.{Made}
use Rattle.holders.specs.Evaluating.{value_nodes, at_nodes, waits_inside, Leaves, is_bare}
use Rattle.holders.specs.Claimed.{NoExit, HasValue}
use Rattle.holders.proofs.Sure.{sure_weaker}
use Rattle.holders.proofs.Owning.{plain_anywhere, from_full}
use Rattle.holders.proofs.Making.{kept_so}
use Rattle.holders.proofs.Coming.{comes_carried}
use Rattle.holders.proofs.Constants.{hooked_is}
use Rattle.holders.proofs.Applying.{OwnWaits, made_valued}
use Rattle.holders.proofs.Staging.{bare_stage}

module _ (here : Here) (first places : ℕ) (os : List Owner) (e : Expr) (own_waits : OwnWaits here e (type_of e)) (nodes later old : List ℕ) (start : World)
    (ms : List Owner) (leaves : Leaves here.level nodes (waits_inside here.facts here.modes e) ms later) where
  abbrev R : Region
  R = at_nodes here.level (value_nodes e)

  abbrev f : Form
  f = form_for here.facts (type_of e)

  abbrev Has_value : Use → Value → World → Type 0
  Has_value how v now = HasValue here first places os e how nodes old start v now

  bare_comes : (how : Use) (v : Value) → gives_hooked here.facts (type_of e) ≡ false → (s : State) → Stage R ms os first places later old start s.world →
      ((world : World) → Has world Constant f v []) →
      Comes (Has_value how) NoExit (carry (kept_if false (record { how = how; level = here.level; node = (node_of e).number }) v) s)
  bare_comes how v unhooked s stage bare =
      comes_carried (Has_value how) NoExit (give v) s
      (is_bare (inl (sym (hooked_is here.facts (type_of e)) ∙ unhooked)) leaves (own_waits.plain how unhooked) stage bare)

  pub called_value : (how : Use) (v : Value) → R.nodes (node_of e).number ≡ true → NoBaseOf (Waiting here.level (node_of e).number) (ms ++ os) → (s : State) →
      Holding f v R ms os first places later old start s.world →
      Comes (Has_value how) NoExit
      (carry (kept_if (gives_hooked here.facts (type_of e)) (record { how = how; level = here.level; node = (node_of e).number }) v) s)
  called_value how v mine off s h = by (gives_hooked here.facts (type_of e)) refl
    where
      by : (b : Bool) → gives_hooked here.facts (type_of e) ≡ b →
          Comes (Has_value how) NoExit (carry (kept_if b (record { how = how; level = here.level; node = (node_of e).number }) v) s)
      by true hooks =
          comes_carried (Has_value how) NoExit (kept (record { how = how; level = here.level; node = (node_of e).number }) v) s
          (sure_weaker (kept (record { how = how; level = here.level; node = (node_of e).number }) v)
          (Made how f (node_of e).number R ms os first places later old start) (Has_value how) s.world
          (kept_so R ms os first places later old start how (node_of e).number mine off h)
          (λ x after m. made_valued here first places os e own_waits nodes later old start ms leaves how hooks m))
      by false unhooked =
          bare_comes how v unhooked s (bare_stage R os first places old start (sym (hooked_is here.facts (type_of e)) ∙ unhooked) h)
          (λ world. plain_anywhere world Constant (sym (hooked_is here.facts (type_of e)) ∙ unhooked) (from_full h.under.has))

  -- a call without a value
  pub called_none : (how : Use) (v : Value) → type_of e ≡ None → v ≡ nothing → (s : State) → Stage R ms os first places later old start s.world →
      Comes (Has_value how) NoExit
      (carry (kept_if (gives_hooked here.facts (type_of e)) (record { how = how; level = here.level; node = (node_of e).number }) v) s)
  called_none how v none same s stage = by (gives_hooked here.facts (type_of e)) refl
    where
      by : (b : Bool) → gives_hooked here.facts (type_of e) ≡ b →
          Comes (Has_value how) NoExit (carry (kept_if b (record { how = how; level = here.level; node = (node_of e).number }) v) s)
      by true hooks = absurd (false≢true (sym (ap (gives_hooked here.facts) none) ∙ hooks))
      by false unhooked =
          bare_comes how v unhooked s stage
          (λ world. subst (λ g. Has world Constant g v []) (sym (ap (form_for here.facts) none))
          (subst (λ x. Has world Constant plain x []) (sym same) a_number))
