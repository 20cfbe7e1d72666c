-- Statements that declare a place or give the result.
use Rattle.std.proofs.Common.{◌≡◌, refl, sym, ap, subst, ◌∙◌, ℕ, ◌+◌, ◌<◌, ◌≤◌, inl, inr, Bool, true, false, List, [], ◌∷◌, ◌++◌, Option}
use Rattle.std.specs.Prelude.{◌&&◌, not, ◌||◌, Some, None}
use Rattle.std.proofs.lemmas.Bool.{false≢true, and_parts}
use Rattle.nim_types.specs.Types.{Ty}
use Rattle.nim_types.specs.Forms.{form_of}
use Rattle.nim_types.proofs.ForCallers.{the_form}
use Rattle.nim_program.specs.declared.operation.Use.TheVariants.{Given as ToPlace}
use Rattle.nim_program.specs.declared.expr.Node.{Node}
use Rattle.nim_program.specs.Program.{Expr, Args, Declared, Give, type_of}
use Rattle.nim_program.specs.Folds.{lists, node_numbers, total}
use Rattle.nim_program.specs.Kinds.{is_of}
use Rattle.nim_program.specs.Scopes as scopes
use Rattle.nim_program.specs.Numbering.{numbers_of}
use Rattle.nim_program.specs.Typed.{Around, is_typed, is_typed_stmt, type_of_place}
use Rattle.nim_meaning.specs.ActTree as points
use Rattle.nim_meaning.specs.Values.{Value, Location, default_of}
use Rattle.nim_meaning.specs.Marks.{Member}
use Rattle.nim_meaning.specs.State.{World, State}
use Rattle.nim_meaning.specs.Ways.{At as Spot}
use Rattle.nim_meaning.specs.Acts.{Does, branch, costs, worked, with_trail, ◌>>=◌, ◌>>◌}
use Rattle.nim_meaning.specs.Here.{Here, gives_hooked, form_for}
use Rattle.nim_meaning.specs.Steps.{at_node, grouped, waits_of, gets_copy}
use Rattle.nim_meaning.specs.Meaning.{eval, source, fill, fill_from, scoped, result_gets, result_copies, back_or_on, exec}
use Rattle.holders.specs.Owned.{Full, HasBlocksAlone}
use Rattle.holders.specs.Sure.{Comes}
use Rattle.holders.specs.Territory.{Owner, Among}
use Rattle.holders.specs.Staging.{Stage}
use Rattle.holders.specs.Called.{LeftBy}
use Rattle.holders.specs.Asked.{Limits, Simple, Asked, FactsOfTheirSort}
use Rattle.holders.specs.Evaluating.{value_nodes}
use Rattle.holders.specs.Claimed.{InBody, known_at}
use Rattle.holders.specs.BodyParts.{part_region, PartBegins, own_cell, Sights, Pending, PartSo}
use Rattle.holders.specs.Numbered.{Rise, Numbered}
use Rattle.holders.proofs.Coming.{comes_then, comes_weaker}
use Rattle.holders.proofs.ElementLists.{blank_has}
use Rattle.holders.proofs.Table.{hold_bare}
use Rattle.holders.proofs.Constants.{hooked_is}
use Rattle.holders.proofs.FormKinds.{same_type}
use Rattle.holders.proofs.PartsInTurn.{in_is, waiting_in}
use Rattle.holders.proofs.Statements.{fill_comes}
use Rattle.holders.proofs.WholeExpressions.{CallsSo}
use Rattle.holders.proofs.NodesRise.{value_members}
use Rattle.holders.proofs.BodyParts.{starts_over}
use Rattle.holders.proofs.BodyValues.{group_so, filled, filled_from, result_so, result_copied, no_place_there}
use Rattle.holders.proofs.BodyStatements.{value_then}
use Rattle.holders.proofs.Owning.{in_second}
use Rattle.holders.proofs.BodyHeads.{scoped_so}
use Rattle.holders.proofs.BodyNumbers.{numbers_second, place_new}

module _ (here : Here) (first places : ℕ) (sorted : FactsOfTheirSort here.facts) (OfCall : Limits → ℕ → Args → Type 0) (Known : scopes.Here → Type 0)
    (calls : (scope : scopes.Here) → Known scope → (limits : Limits) (root : (global : Bool) → ℕ → ℕ) (os : List Owner) →
    CallsSo here scope limits root first places os (OfCall limits)) where
  abbrev known : scopes.Here → scopes.Here
  known scope = known_at here scope

  -- what declares a place
  abbrev pub Declares : scopes.Here → Limits → Declared → (ps ns : List ℕ) → Does (Unit {0}) → Type 0
  Declares scope limits place ps ns act =
      (os : List Owner) (nodes : List ℕ) (s : State) (b : PartBegins here.level first places ps ns os nodes s.world) →
      Sights here (known scope) limits os s.world →
      Comes (λ u after. InBody (part_region here.level ps ns) (own_cell here place ∷ []) os first places nodes b.territory.blocks s.world after)
      (LeftBy (λ after. InBody (part_region here.level ps ns) [] os first places nodes b.territory.blocks s.world after)) (act s)

  -- with its default
  pub default_declares : (scope : scopes.Here) (limits : Limits) (place : Declared) (ps ns : List ℕ) (node : ℕ) → Simple here.facts place.of →
      Member place.number ps → first ≤ place.number → place.number < first + places →
      Declares scope limits place ps ns (costs 1 (at_node node points.Does (fill here place.number (default_of here.facts place.of))))
  default_declares scope limits place ps ns node simple mine le less os nodes s b sights =
      let r = part_region here.level ps ns in
      let D : World → Type 0 = λ after. InBody r (own_cell here place ∷ []) os first places nodes b.territory.blocks s.world after in
      let begun = (starts_over ps ns b).stage in
      comes_weaker (λ u after. Stage r (own_cell here place ∷ []) os first places nodes b.territory.blocks s.world after)
      (LeftBy (λ after. InBody r [] os first places nodes b.territory.blocks s.world after)) (λ u after. D after)
      (LeftBy (λ after. InBody r [] os first places nodes b.territory.blocks s.world after))
      (costs 1 (at_node node points.Does (fill here place.number (default_of here.facts place.of))) s)
      (fill_comes {ms = []} here place.number (LeftBy (λ after. InBody r [] os first places nodes b.territory.blocks s.world after)) refl
      (with_trail (Spot node points.Does ∷ (worked 1 s).trail) (worked 1 s))
      (hold_bare here.facts r [] os first places nodes b.territory.blocks s.world begun
      (blank_has s.world Full (form_of here.facts place.of) (subst HasBlocksAlone (sym (the_form simple.has)) simple.blocks)))
      le less (in_is place.number ps mine) (no_place_there here.level place.number ps ns os mine b.outside))
      (λ u after st. record { later = nodes; stage = st; distinct = b.distinct; came = λ n m. m }) (λ way after q. q)

  -- with a value
  pub value_declares : (scope : scopes.Here) → Known scope → (limits : Limits) (place : Declared) (e : Expr) → is_typed (known scope) e ≡ true →
      Asked here.facts limits (OfCall limits) e → is_of (type_of e) (Some place.of) ≡ true → (from : ℕ) → Rise from (total lists node_numbers e) →
      (ps ns : List ℕ) (node : ℕ) → Member place.number ps → first ≤ place.number → place.number < first + places →
      ((n : ℕ) → Member n (total lists node_numbers e) → Member n ns) →
      Declares scope limits place ps ns (costs 1 (grouped here node (waits_of here e ToPlace) (branch (gets_copy here ToPlace e)
      (source e here >>= (λ l. at_node node points.Does (fill_from here place l)))
      (eval e ToPlace here >>= (λ v. at_node node points.Does (fill here place.number v))))))
  value_declares scope ok limits place e typed asked of from r ps ns node mine le less within os nodes s b sights =
      let W : World → Type 0 = λ after. Pending (part_region here.level ps ns) (own_cell here place ∷ []) os first places nodes (waits_of here e ToPlace)
      b.territory.blocks s.world after in
      let X : World → Type 0 = λ after. Pending (part_region here.level ps ns) [] os first places nodes (waits_of here e ToPlace) b.territory.blocks s.world
      after in
      group_so here first places ps ns os nodes b.territory.blocks s.world node (own_cell here place ∷ []) [] (waits_of here e ToPlace)
      (branch (gets_copy here ToPlace e) (source e here >>= (λ l. at_node node points.Does (fill_from here place l)))
      (eval e ToPlace here >>= (λ v. at_node node points.Does (fill here place.number v))))
      (λ n m. within n (value_members (known scope) e typed n (waiting_in here.facts here.modes e ToPlace n m))) (worked 1 s)
      (value_then here first places sorted OfCall Known calls scope ok limits e typed asked from r
      (λ v. at_node node points.Does (fill here place.number v)) (λ l. at_node node points.Does (fill_from here place l)) W (LeftBy X) _ b within sights
      (λ root v now h. filled here first places ps ns os nodes b.territory.blocks s.world place le less mine b.outside
      (value_nodes e) (LeftBy X)
      (λ n m. within n (value_members (known scope) e typed n m)) same h.leaves (with_trail (Spot node points.Does ∷ now.trail) now) h.holding)
      (λ root sub in_it l now hooks h. filled_from here first places ps ns os nodes b.territory.blocks s.world place le less mine b.outside sub (LeftBy X)
      in_it same
      h.leaves (with_trail (Spot node points.Does ∷ now.trail) now) h.stage h.found))
    where
      same : form_for here.facts (type_of e) ≡ form_of here.facts place.of
      same = ap (form_for here.facts) (same_type {a = type_of e} {b = Some place.of} of)

  -- then what follows is in its scope
  pub declare_then : (scope next : scopes.Here) (limits : Limits) (place : Declared) (vd rd : List Declared) (vn rn : List ℕ) →
      Numbered here first places (known scope) limits (place ∷ (vd ++ rd)) (vn ++ rn) → (act rest : Does (Unit {0})) (last : ℕ) →
      ((os : List Owner) (world : World) → Sights here (known scope) limits os world → Sights here (known next) limits (own_cell here place ∷ os) world) →
      Declares scope limits place (numbers_of (place ∷ (vd ++ rd))) (vn ++ rn) act →
      PartSo here first places (known next) limits (numbers_of rd) rn rest →
      PartSo here first places (known scope) limits (numbers_of (place ∷ (vd ++ rd))) (vn ++ rn) (act >> scoped here place last rest)
  declare_then scope next limits place vd rd vn rn numbers act rest last extends declares rest_so os nodes s b sights =
      let ps = numbers_of (place ∷ (vd ++ rd)) in
      let ns = vn ++ rn in
      let r = part_region here.level ps ns in
      let D : World → Type 0 = λ after. InBody r [] os first places nodes b.territory.blocks s.world after in
      comes_then act (λ u. scoped here place last rest)
      (λ u after. InBody r (own_cell here place ∷ []) os first places nodes b.territory.blocks s.world after) (λ u after. D after) (LeftBy D) s
      (declares os nodes s b sights)
      (λ u mid e. scoped_so here first places (known scope) limits ps ns (known next) limits (numbers_of rd) rn place last rest (inl refl)
      (λ n m. inr (numbers_second n vd rd m)) (λ n m. in_second n vn rn m)
      (λ m. place_new place (vd ++ rd) numbers (numbers_second place.number vd rd m)) numbers.none rest_so b sights mid (extends os mid.world) e)

  -- ---- the result

  pub give_so : (scope : scopes.Here) → Known scope → (limits : Limits) (around : Around) → around.gives ≡ type_of_place here.result → (node : Node)
      (back : Bool) (e : Expr) → is_typed_stmt (known scope) around (Give node back e) ≡ true → Asked here.facts limits (OfCall limits) e → (from : ℕ) →
      Rise from (total lists node_numbers e) → (ps ns : List ℕ) → ((n : ℕ) → Member n (total lists node_numbers e) → Member n ns) →
      PartSo here first places (known scope) limits ps ns (exec (Give node back e) here)
  give_so scope ok limits around gives node back e typed asked from r ps ns within os nodes s b sights = by here.result refl
    where
      W : World → Type 0
      W after = Pending (part_region here.level ps ns) [] os first places nodes (waits_of here e ToPlace) b.territory.blocks s.world after

      D : World → Type 0
      D after = InBody (part_region here.level ps ns) [] os first places nodes b.territory.blocks s.world after

      both : (is_of (type_of e) around.gives && (not back || around.returns) ≡ true) × (is_typed (known scope) e ≡ true)
      both = and_parts (is_of (type_of e) around.gives && (not back || around.returns)) (is_typed (known scope) e) typed

      of : is_of (type_of e) around.gives ≡ true
      of = (and_parts (is_of (type_of e) around.gives) (not back || around.returns) both.0).0

      leaves_or_not : (c : Bool) (now : State) → W now.world → Comes (λ u after. W after) (LeftBy W) (back_or_on c node.number now)
      leaves_or_not true now w = (tt, w)
      leaves_or_not false now w = w

      none_given : (a : Option Ty) → is_of a None ≡ true → ⊥
      none_given None q = false≢true q
      none_given (Some t) q = false≢true q

      put : Option Declared → Value → Does (Unit {0})
      put o v = at_node node.number points.Does (result_gets (gives_hooked here.facts (type_of e)) o here v) >>= (λ given. back_or_on back node.number)

      copy : Option Declared → Location → Does (Unit {0})
      copy o l = at_node node.number points.Does (result_copies o here l) >> back_or_on back node.number

      by : (o : Option Declared) → here.result ≡ o → Comes (λ u after. D after) (LeftBy D) (exec (Give node back e) here s)
      by None q = absurd (none_given (type_of e) (subst (λ t. is_of (type_of e) t ≡ true) (gives ∙ ap type_of_place q) of))
      by (Some place) q =
          group_so here first places ps ns os nodes b.territory.blocks s.world node.number [] [] (waits_of here e ToPlace)
          (branch (gets_copy here ToPlace e) (source e here >>= copy here.result) (eval e ToPlace here >>= put here.result))
          (λ n m. within n (value_members (known scope) e both.1 n (waiting_in here.facts here.modes e ToPlace n m))) (worked 1 s)
          (value_then here first places sorted OfCall Known calls scope ok limits e both.1 asked from r (put here.result) (copy here.result) W (LeftBy W) _ b
          within sights
          (λ root v now h. subst (λ o. Comes (λ u after. W after) (LeftBy W) (put o v now)) (sym q)
          (comes_then (at_node node.number points.Does (result_gets (gives_hooked here.facts (type_of e)) (Some place) here v))
          (λ given. back_or_on back node.number)
          (λ x after. W after) (λ u after. W after) (LeftBy W) now
          (result_so here first places ps ns os nodes b.territory.blocks s.world place there (value_nodes e) (LeftBy W)
          (gives_hooked here.facts (type_of e)) (λ n m. within n (value_members (known scope) e both.1 n m)) same (sym (hooked_is here.facts (type_of e)))
          h.leaves _ h.holding)
          (λ x last w. leaves_or_not back last w)))
          (λ root sub in_it l now hooks h. subst (λ o. Comes (λ u after. W after) (LeftBy W) (copy o l now)) (sym q)
          (comes_then (at_node node.number points.Does (result_copies (Some place) here l)) (λ u. back_or_on back node.number)
          (λ x after. W after) (λ u after. W after) (LeftBy W) now
          (result_copied here first places ps ns os nodes b.territory.blocks s.world place there sub (LeftBy W) in_it same
          (sym (hooked_is here.facts (type_of e)) ∙ hooks) h.leaves _ h.stage h.found)
          (λ x last w. leaves_or_not back last w))))
        where
          there : Among os (own_cell here place)
          there = sights.result place q

          same : form_for here.facts (type_of e) ≡ form_of here.facts place.of
          same = ap (form_for here.facts)
              (same_type {a = type_of e} {b = Some place.of} (subst (λ t. is_of (type_of e) t ≡ true) (gives ∙ ap type_of_place q) of))
