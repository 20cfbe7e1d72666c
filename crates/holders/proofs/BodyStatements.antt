-- Statements: those that are expressions, that give a value, that declare a place, that choose, and loops.
use Rattle.std.proofs.Common.{◌≡◌, refl, sym, subst, ℕ, inl, inr, ◌⊎◌, Bool, true, false, List, []}
use Rattle.std.specs.Prelude.{◌&&◌, Some}
use Rattle.std.proofs.lemmas.Bool.{false≢true, and_parts}
use Rattle.nim_program.specs.declared.operation.Use.{Use}
use Rattle.nim_program.specs.declared.operation.Use.TheVariants.{Owned, Given as ToPlace}
use Rattle.nim_program.specs.Program.{Expr, Apply, Read, Early, Choose, Path, Args}
use Rattle.nim_program.specs.Program.{Do, type_of, type_at}
use Rattle.nim_program.specs.Folds.{lists, node_numbers, total}
use Rattle.nim_program.specs.Fitting.{is_in}
use Rattle.nim_program.specs.Kinds.{is_bool, kind_if}
use Rattle.nim_program.specs.Scopes as scopes
use Rattle.nim_program.specs.Typed.{is_typed, is_typed_path, are_typed, is_read as reads_whole}
use Rattle.nim_meaning.specs.Values.{Value, Location}
use Rattle.nim_meaning.specs.Marks.{Member, Distinct}
use Rattle.nim_meaning.specs.State.{World, State}
use Rattle.nim_meaning.specs.Acts.{Exit, Does, branch, ◌>>=◌}
use Rattle.nim_meaning.specs.Here.{Here, gives_hooked, form_for}
use Rattle.nim_meaning.specs.Shapes.{is_given, is_read}
use Rattle.nim_meaning.specs.Steps.{ended_value, waits_of, gets_copy}
use Rattle.nim_meaning.specs.Meaning.{eval, source, exec}
use Rattle.holders.specs.Sure.{Comes}
use Rattle.holders.specs.Territory.{Owner}
use Rattle.holders.specs.Called.{LeftBy}
use Rattle.holders.specs.Asked.{Limits, Asked, AskedAt, AllAsked, FactsOfTheirSort}
use Rattle.holders.specs.Evaluating.{value_nodes, path_nodes, operand_nodes, Bare, AllLast}
use Rattle.holders.specs.Claimed.{NoExit, ValueSo, AimSo, ReadySo, HasValue, known_at}
use Rattle.holders.specs.BodyParts.{PartBegins, Sights, Over, PartSo}
use Rattle.holders.specs.Numbered.{Rise}
use Rattle.holders.proofs.Coming.{comes_then, comes_weaker}
use Rattle.holders.proofs.Constants.{bool_type, not_hooked}
use Rattle.holders.proofs.PartsInTurn.{in_is}
use Rattle.holders.proofs.Claims.{asked_type}
use Rattle.holders.proofs.Branches.{Ended, ended_so}
use Rattle.holders.proofs.AllOfExpressions.{value_so, aim_so, ready_so}
use Rattle.holders.proofs.WholeExpressions.{CallsSo, all_but_calls}
use Rattle.holders.proofs.InBodies.{do_comes}
use Rattle.holders.proofs.NodesRise.{value_distinct, value_members}
use Rattle.holders.proofs.BodyParts.{part_wider, stage_in, value_begins, starts_over}
use Rattle.holders.proofs.BodyValues.{Brought, brought, Sourced, source_so}

module _ (here : Here) (first places : ℕ) (sorted : FactsOfTheirSort here.facts) (OfCall : Limits → ℕ → Args → Type 0) (Known : scopes.Here → Type 0)
    (calls : (scope : scopes.Here) → Known scope → (limits : Limits) (root : (global : Bool) → ℕ → ℕ) (os : List Owner) →
    CallsSo here scope limits root first places os (OfCall limits)) where
  abbrev pub known : scopes.Here → scopes.Here
  known scope = known_at here scope

  abbrev pub Part : {A : Type 0} → scopes.Here → Limits → (ps ns : List ℕ) → Does A → Type 0
  Part scope limits ps ns act = PartSo here first places (known scope) limits ps ns act

  abbrev Asks : Limits → Expr → Type 0
  Asks limits e = Asked here.facts limits (OfCall limits) e

  -- ---- expressions

  pub value_at : (scope : scopes.Here) → Known scope → (limits : Limits) (root : (global : Bool) → ℕ → ℕ) (os : List Owner) (e : Expr) →
      is_typed (known scope) e ≡ true → Asks limits e → Distinct (value_nodes e) → (how : Use) → ValueSo here (known scope) limits root first places os e how
  value_at scope ok limits root os e typed asked d how =
      value_so here scope limits root first places os (OfCall limits)
      (all_but_calls here scope limits root first places os (OfCall limits) sorted (calls scope ok limits root os)) e typed asked d how

  pub path_at : (scope : scopes.Here) → Known scope → (limits : Limits) (root : (global : Bool) → ℕ → ℕ) (os : List Owner) (path : Path) →
      is_typed_path (known scope) path ≡ true → AskedAt here.facts limits (OfCall limits) path → Distinct (path_nodes path) →
      AimSo here (known scope) limits root first places os path
  path_at scope ok limits root os path typed asked d =
      aim_so here scope limits root first places os (OfCall limits)
      (all_but_calls here scope limits root first places os (OfCall limits) sorted (calls scope ok limits root os)) path typed asked d

  pub operands_at : (scope : scopes.Here) → Known scope → (limits : Limits) (root : (global : Bool) → ℕ → ℕ) (os : List Owner) (args : Args)
      (uses : (position : ℕ) → Use) (i : ℕ) → are_typed (known scope) args ≡ true → AllAsked here.facts limits (OfCall limits) args →
      Distinct (operand_nodes args) → AllLast here uses args i → ReadySo here (known scope) limits root first places os uses args i
  operands_at scope ok limits root os args uses i typed asked d last =
      ready_so here scope limits root first places os (OfCall limits)
      (all_but_calls here scope limits root first places os (OfCall limits) sorted (calls scope ok limits root os)) args uses i typed asked d last

  -- ---- a test, and an expression as a statement

  pub test_so : (scope : scopes.Here) → Known scope → (limits : Limits) (e : Expr) → is_typed (known scope) e ≡ true → Asks limits e →
      is_bool (kind_if here.facts (type_of e)) ≡ true → (from : ℕ) → Rise from (total lists node_numbers e) →
      Part scope limits [] (total lists node_numbers e) (ended_value here e Owned (eval e Owned here))
  test_so scope ok limits e typed asked bool from r os nodes s b sights =
      let ns = total lists node_numbers e in
      let d = value_distinct (known scope) from e typed r in
      let w = part_wider here.level [] ns [] (value_nodes e) (λ n m. m) (λ n m. value_members (known scope) e typed n m) in
      let Q : World → Type 0 = λ after. Over here first places (known scope) limits [] ns os nodes b.territory.blocks s.world after in
      comes_weaker
      (λ v now. Ended here.level first places (value_nodes e) nodes os b.territory.blocks s.world now × Bare (form_for here.facts (type_of e)) v) NoExit
      (λ v after. Q after) (LeftBy Q)
      (ended_value here e Owned (eval e Owned here) s)
      (ended_so here (known scope) limits sights.root first places os e
      (not_hooked here.facts (type_of e) (bool_type here.facts (type_of e) (asked_type here.facts limits (OfCall limits) e asked) bool)) d
      (value_at scope ok limits sights.root os e typed asked d Owned) nodes s
      (value_begins [] ns (value_nodes e) b (λ n m. value_members (known scope) e typed n m)) sights.scene)
      (λ v now h. record {
        later = h.0.later;
        stage = stage_in w h.0.stage;
        distinct = h.0.leaves.distinct;
        came = λ n m. before n (h.0.leaves.came n m);
      })
      (λ way now q. absurd q)
    where
      before : (n : ℕ) → Member n nodes ⊎ Member n [] → Member n nodes
      before n (inl m) = m
      before n (inr m) = elim m [ ]

  pub do_so : (scope : scopes.Here) → Known scope → (limits : Limits) (e : Expr) → gives_hooked here.facts (type_of e) ≡ false → is_typed (known scope) e ≡ true
      → Asks limits e → (from : ℕ) →
      Rise from (total lists node_numbers e) → Part scope limits [] (total lists node_numbers e) (exec (Do e) here)
  do_so scope ok limits e unhooked typed asked from r os nodes s b sights =
      let ns = total lists node_numbers e in
      let d = value_distinct (known scope) from e typed r in
      let within : (n : ℕ) → Member n (value_nodes e) → Member n ns = λ n m. value_members (known scope) e typed n m in
      let Q : World → Type 0 = λ after. Over here first places (known scope) limits [] ns os nodes b.territory.blocks s.world after in
      comes_weaker (λ u after. Q after) NoExit (λ u after. Q after) (LeftBy Q) (exec (Do e) here s)
      (do_comes here (known scope) limits sights.root (λ n. false) (λ n. is_in n ns) first places [] os nodes b.territory.blocks
      s.world e
      (value_at scope ok limits sights.root os e typed asked d Owned) d unhooked (λ n m. in_is n ns (within n m)) (λ n m q. b.free n m (within n q))
      (value_begins [] ns (value_nodes e) b within).outside tt b.deepest s (starts_over [] ns b) sights.scene)
      (λ u now e. e) (λ way now q. absurd q)

  -- ---- a value for a place, and for the result

  -- of expressions those alone are copied that are paths
  copied_path : (e : Expr) → gets_copy here ToPlace e ≡ true → (P : Type 0) →
      ((path : Path) → e ≡ Read path → gives_hooked here.facts (type_at path) ≡ true → P) → P
  copied_path (Apply node ty act operands) e P h =
      absurd (false≢true (and_parts (is_given ToPlace) false (and_parts (gives_hooked here.facts ty) (is_given ToPlace && false) e).1).1)
  copied_path (Read path) e P h = h path refl (and_parts (gives_hooked here.facts (type_at path)) (is_given ToPlace && is_read (Read path)) e).0
  copied_path (Early node ty short left right) e P h =
      absurd (false≢true (and_parts (is_given ToPlace) false (and_parts (gives_hooked here.facts (Some ty)) (is_given ToPlace && false) e).1).1)
  copied_path (Choose node ty chooser parts) e P h =
      absurd (false≢true (and_parts (is_given ToPlace) false (and_parts (gives_hooked here.facts ty) (is_given ToPlace && false) e).1).1)

  -- A value, or where a copy is made from, and then what becomes of it, which may leave the body.
  pub value_then : (scope : scopes.Here) → Known scope → (limits : Limits) (e : Expr) → is_typed (known scope) e ≡ true → Asks limits e →
      (from : ℕ) → Rise from (total lists node_numbers e) → (put : Value → Does (Unit {0})) (copy : Location → Does (Unit {0}))
      (P : World → Type 0) (X : Exit → World → Type 0) {os : List Owner} {nodes ps ns : List ℕ} (s : State)
      (b : PartBegins here.level first places ps ns os nodes s.world) → ((n : ℕ) → Member n (total lists node_numbers e) → Member n ns) →
      Sights here (known scope) limits os s.world →
      ((root : (global : Bool) → ℕ → ℕ) (v : Value) (now : State) → Brought here (known scope) limits root first places os
      (form_for here.facts (type_of e)) (value_nodes e) nodes (waits_of here e ToPlace) b.territory.blocks s.world v now.world →
      Comes (λ u after. P after) X (put v now)) →
      ((root : (global : Bool) → ℕ → ℕ) (sub : List ℕ) → ((n : ℕ) → Member n sub → Member n ns) → (l : Location) (now : State) →
      gives_hooked here.facts (type_of e) ≡ true →
      Sourced here (known scope) limits root first places os (form_for here.facts (type_of e)) sub nodes (waits_of here e ToPlace) b.territory.blocks s.world l
      now.world →
      Comes (λ u after. P after) X (copy l now)) →
      Comes (λ u after. P after) X (branch (gets_copy here ToPlace e) (source e here >>= copy) (eval e ToPlace here >>= put) s)
  value_then scope ok limits e typed asked from r put copy P X {os} {nodes} {ps} {ns} s b within sights puts copies = by (gets_copy here ToPlace e) refl
    where
      d : Distinct (value_nodes e)
      d = value_distinct (known scope) from e typed r

      members : (n : ℕ) → Member n (value_nodes e) → Member n ns
      members n m = within n (value_members (known scope) e typed n m)

      V : Value → World → Type 0
      V = HasValue here first places os e ToPlace nodes b.territory.blocks s.world

      from_path : (path : Path) → e ≡ Read path → gives_hooked here.facts (type_at path) ≡ true → Comes (λ u after. P after) X ((source e here >>= copy) s)
      from_path path is hooks =
          let S : Location → World → Type 0 = Sourced here (known scope) limits sights.root first places os (form_for here.facts (type_of e)) (path_nodes path)
          nodes (waits_of here e ToPlace) b.territory.blocks s.world in
          comes_then (source e here) copy S (λ u after. P after) X s
          (comes_weaker S NoExit S X (source e here s)
          (subst (λ x. Comes (Sourced here (known scope) limits sights.root first places os (form_for here.facts (type_of x)) (path_nodes path)
          nodes (waits_of here x ToPlace) b.territory.blocks s.world) NoExit (source x here s)) (sym is)
          (source_so here (known scope) limits sights.root first places os path
          (path_at scope ok limits sights.root os path (and_parts (reads_whole here.facts path) (is_typed_path (known scope) path)
          (subst (λ x. is_typed (known scope) x ≡ true) is typed)).1 (subst (λ x. Asks limits x) is asked)
          (subst (λ x. Distinct (value_nodes x)) is d).1) nodes s
          (value_begins ps ns (path_nodes path) b path_in_it) sights.scene))
          (λ l now h. h) (λ way now q. absurd q))
          (λ l now h. copies sights.root (path_nodes path) path_in_it l now (subst (λ x. gives_hooked here.facts (type_of x) ≡ true) (sym is) hooks) h)
        where
          path_in_it : (n : ℕ) → Member n (path_nodes path) → Member n ns
          path_in_it n m = members n (subst (λ x. Member n (value_nodes x)) (sym is) (inr m))

      by : (c : Bool) → gets_copy here ToPlace e ≡ c →
          Comes (λ u after. P after) X (branch c (source e here >>= copy) (eval e ToPlace here >>= put) s)
      by false q =
          comes_then (eval e ToPlace here) put V (λ u after. P after) X s
          (comes_weaker V NoExit V X (eval e ToPlace here s)
          (value_at scope ok limits sights.root os e typed asked d ToPlace nodes s (value_begins ps ns (value_nodes e) b members) sights.scene)
          (λ v now h. h) (λ way now q. absurd q))
          (λ v now h. puts sights.root v now (brought here (known scope) limits sights.root first places os e h))
      by true q = copied_path e q (Comes (λ u after. P after) X ((source e here >>= copy) s)) (λ path is hooks. from_path path is hooks)
