-- Where the parts of a path lead.
use Rattle.std.proofs.Common.{◌≡◌, refl, ap, subst, ℕ, Bool, true, false, List, [], ◌∷◌, ◌++◌, Option, Some, None}
use Rattle.std.specs.Prelude.{ℤ}
use Rattle.std.proofs.lemmas.Bool.{false≢true}
use Rattle.nim_types.specs.Types.{Ty, Facts}
use Rattle.nim_types.specs.Forms.{form_of}
use Rattle.nim_types.proofs.ForCallers.{the_form}
use Rattle.nim_program.specs.declared.expr.Node.{Node}
use Rattle.nim_program.specs.declared.operation.Use.TheVariants.{Owned, Looked}
use Rattle.nim_program.specs.Program.{Literal, Expr, Path, Variable, Fresh, Field, Element, type_of, type_at, node_of, constant_in}
use Rattle.nim_program.specs.Folds.{if_constant, by_constant}
use Rattle.nim_program.specs.Kinds.{kind_if, field_at, element_of, object_of, is_of, is_held as keeps_values}
use Rattle.nim_program.specs.Scopes as scopes
use Rattle.nim_program.specs.Scopes.{type_in}
use Rattle.nim_meaning.specs.Values.{Value, number_of, literal_value, Made}
use Rattle.nim_meaning.specs.Marks.{Distinct}
use Rattle.nim_meaning.specs.State.{World, State}
use Rattle.nim_meaning.specs.Acts.{give, ◌>>=◌}
use Rattle.nim_meaning.specs.Here.{Here, gives_hooked, form_for}
use Rattle.nim_meaning.specs.Waiting.{Wait, waiting, waiting_at}
use Rattle.nim_meaning.specs.Aims.{Aim, Root, PartOf, ItemOf, fresh_root}
use Rattle.nim_meaning.specs.Meaning.{eval, aimed}
use Rattle.holders.specs.Sure.{Comes}
use Rattle.holders.specs.Territory.{Owner, first_owner}
use Rattle.holders.specs.Ways.{Step, to_field, to_element}
use Rattle.holders.specs.Finding.{AimsAt, at_root, at_constant, at_value, at_waiting}
use Rattle.holders.proofs.Owning.{in_first, in_second, distinct_second, distinct_apart}
use Rattle.holders.proofs.Framing.{stage_begins}
use Rattle.holders.proofs.FormsOfTypes.{of_type, aim_field, aim_element}
use Rattle.holders.proofs.Coming.{comes_then}
use Rattle.holders.specs.Asked.{Limits, IfSimple}
use Rattle.holders.specs.Evaluating.{value_nodes, path_nodes, waits_itself, Bare, is_bare, is_seen, is_held}
use Rattle.holders.specs.Evaluating.{is_waiting, Aims, at_place, at_made}
use Rattle.holders.proofs.PartsInTurn.{leaves_none, begins_part, First, begins_next, stage_next, leaves_next, path_in, waiting_in}
use Rattle.holders.specs.Claimed.{NoExit, From, Sees, HasValue, ValueSo, HasAim, AimSo}
use Rattle.holders.proofs.Claims.{behind_value, value_bare, scene_passes, aims_first, behind_alone}
use Rattle.holders.proofs.Constants.{no_ref}

-- ---- steps, by types

module _ (facts : Facts) {os : List Owner} {world : World} {b : Bool} {n : ℕ} {aim : Aim} where
  abbrev field_aim : (field : ℕ) (o : Option Ty) (ty : Ty) → IfSimple facts o → keeps_values (kind_if facts o) ≡ true →
      is_of (field_at (kind_if facts o) field) (Some ty) ≡ true →
      AimsAt os world b n aim (form_for facts o) → AimsAt os world b n (PartOf aim field) (form_of facts ty)
  field_aim field None ty simple held typed a = absurd (false≢true typed)
  field_aim field (Some t) ty simple held typed a =
      aim_field field simple.has simple.blocks simple.declared held (of_type typed)
      (subst (λ g. AimsAt os world b n aim g) (the_form simple.has) a)

  abbrev element_aim : (z : ℤ) (o : Option Ty) (ty : Ty) → IfSimple facts o → is_of (element_of (kind_if facts o)) (Some ty) ≡ true →
      AimsAt os world b n aim (form_for facts o) → AimsAt os world b n (ItemOf aim z) (form_of facts ty)
  element_aim z None ty simple typed a = absurd (false≢true typed)
  element_aim z (Some t) ty simple typed a =
      aim_element simple.has (of_type typed) (subst (λ g. AimsAt os world b n aim g) (the_form simple.has) a)

pub no_object : (facts : Facts) (o : Option Ty) (ty : Ty) → IfSimple facts o → is_of (object_of (kind_if facts o)) (Some ty) ≡ true → ⊥
no_object facts None ty simple typed = false≢true typed
no_object facts (Some t) ty simple typed = no_ref simple.has simple.blocks (of_type typed)

module _ (here : Here) (scope : scopes.Here) (limits : Limits) (root : (global : Bool) → ℕ → ℕ) (first places : ℕ) (os : List Owner) where
  abbrev Aim_so : Path → Type 0
  Aim_so path = AimSo here scope limits root first places os path

  abbrev Aims_to : List Owner → Path → Aim → Type 0
  Aims_to ms path aim = Aims here scope limits root ms os path (form_for here.facts (type_at path)) aim

  abbrev Has_aim : Path → (ns : List ℕ) → List Wait → (nodes old : List ℕ) → World → Aim → World → Type 0
  Has_aim path ns ws nodes old start = HasAim here scope limits root first places os path ns ws nodes old start

  pub variable_so : (node : Node) (ty : Ty) (place : ℕ) (global : Bool) → limits.seen global place ≡ true →
      is_of (type_in scope global place) (Some ty) ≡ true → Aim_so (Variable node ty place global)
  variable_so node ty place global named typed nodes s b scene = record {
    own = [];
    later = nodes;
    leaves = leaves_none b.distinct;
    stage = stage_begins b.territory tt b.active;
    aims = at_place (λ world sees. at_root (sees.place global place ty named (of_type typed))) refl tt;
  }

  field_aims : {ms : List Owner} {aim : Aim} (node : Node) (ty : Ty) (base : Path) (field : ℕ) → IfSimple here.facts (type_at base) →
      keeps_values (kind_if here.facts (type_at base)) ≡ true → is_of (field_at (kind_if here.facts (type_at base)) field) (Some ty) ≡ true →
      Aims_to ms base aim →
      Aims_to ms (Field node ty base field) (PartOf aim field)
  field_aims node ty base field simple held typed (at_place h steps fresh) =
      at_place (λ world sees. field_aim here.facts field (type_at base) ty simple held typed (h world sees))
      (ap (λ (ss : List Step). ss ++ to_field field ∷ []) steps) tt
  field_aims node ty base field simple held typed (at_made unwritten h fresh) =
      at_made unwritten (λ world. field_aim here.facts field (type_at base) ty simple held typed (h world)) tt

  pub field_so : (node : Node) (ty : Ty) (base : Path) (field : ℕ) → IfSimple here.facts (type_at base) →
      keeps_values (kind_if here.facts (type_at base)) ≡ true → is_of (field_at (kind_if here.facts (type_at base)) field) (Some ty) ≡ true → Aim_so base →
      Aim_so (Field node ty base field)
  field_so node ty base field simple held typed so nodes s b scene =
      let ns = path_nodes base in
      let ws = waiting_at here.facts here.modes base in
      comes_then (aimed base here) (λ aim. give (PartOf aim field)) (Has_aim base ns ws nodes b.territory.blocks s.world)
      (Has_aim (Field node ty base field) ns ws nodes b.territory.blocks s.world) NoExit s (so nodes s b scene)
      (λ aim now a. record {
        own = a.own;
        later = a.later;
        leaves = a.leaves;
        stage = a.stage;
        aims = field_aims node ty base field simple held typed a.aims;
      })

  element_aims : {ms : List Owner} (ks : List Owner) {aim : Aim} (z : ℤ) (node : Node) (ty : Ty) (base : Path) (index : Expr) (constant : Option ℤ) →
      IfSimple here.facts (type_at base) → is_of (element_of (kind_if here.facts (type_at base))) (Some ty) ≡ true → Aims_to ms base aim →
      Aims_to (ms ++ ks) (Element node ty base index constant) (ItemOf aim z)
  element_aims ks z node ty base index constant simple typed (at_place h steps fresh) =
      at_place (λ world sees. element_aim here.facts z (type_at base) ty simple typed (h world sees))
      (ap (λ (ss : List Step). ss ++ to_element ∷ []) steps) tt
  element_aims ks z node ty base index constant simple typed (at_made unwritten h fresh) =
      at_made unwritten (λ world. element_aim here.facts z (type_at base) ty simple typed (aims_first ks (h world))) tt

  pub element_so : (node : Node) (ty : Ty) (base : Path) (index : Expr) (constant : Option ℤ) → IfSimple here.facts (type_at base) →
      is_of (element_of (kind_if here.facts (type_at base))) (Some ty) ≡ true → Distinct (path_nodes base ++ value_nodes index) →
      gives_hooked here.facts (type_of index) ≡ false → Aim_so base → ValueSo here scope limits root first places os index Owned →
      Aim_so (Element node ty base index constant)
  element_so node ty base index constant simple typed d unhooked so index_so nodes s b scene =
      let one = path_nodes base in
      let two = value_nodes index in
      let ws = waiting_at here.facts here.modes base in
      let vs = waiting here.facts here.modes index Owned in
      let Q = Has_aim (Element node ty base index constant) (one ++ two) (ws ++ vs) nodes b.territory.blocks s.world in
      comes_then (aimed base here) (λ aim. eval index Owned here >>= (λ z. give (ItemOf aim (number_of z))))
      (Has_aim base one ws nodes b.territory.blocks s.world) Q NoExit s (so nodes s (begins_part (one ++ two) one b (λ n m. in_first n one two m)) scene)
      (λ aim mid a.
      let p : First here.level first places (one ++ two) one two os nodes ws a.own a.later s.world mid.world = record {
        before = b;
        of_one = λ n m. in_first n one two m;
        of_two = λ n m. in_second n one two m;
        inside = λ n m. path_in here.facts here.modes base n m;
        apart = λ n m q. distinct_apart n one two d m q;
        leaves = a.leaves;
        stage = a.stage;
      } in
      comes_then (eval index Owned here) (λ z. give (ItemOf aim (number_of z)))
      (HasValue here first places os index Owned a.later (begins_next p).territory.blocks mid.world) Q NoExit mid
      (index_so a.later mid (begins_next p) (scene_passes one a.stage.runs.passes scene))
      (λ z last v.
      let after = behind_value here index Owned (distinct_second one two d) v in
      record {
        own = a.own ++ after.own;
        later = after.later;
        leaves = leaves_next p (λ n m. waiting_in here.facts here.modes index Owned n m) after.leaves;
        stage = stage_next p (behind_alone here index Owned (distinct_second one two d) (λ how. unhooked) v);
        aims = element_aims after.own (number_of z) node ty base index constant simple typed a.aims;
      }))

  -- ---- a fresh value

  fresh_aim : (value : Expr) → Distinct (value_nodes value) → (b : Bool) → gives_hooked here.facts (type_of value) ≡ b →
      (waits_itself here.facts here.modes value Looked ≡ [] → b ≡ true → ⊥) →
      {nodes old : List ℕ} {start : World} {v : Value} {now : World} → HasValue here first places os value Looked nodes old start v now →
      Has_aim (Fresh value) (value_nodes value) (waiting here.facts here.modes value Looked) nodes old start
      (fresh_root b here.level (node_of value).number v) now
  fresh_aim value d false unhooked waits v =
      let after = behind_value here value Looked d v in
      record {
        own = after.own;
        later = after.later;
        leaves = after.leaves;
        stage = behind_alone here value Looked d (λ how. unhooked) v;
        aims = at_made {n = 0} refl (λ world. at_value (value_bare here value Looked unhooked v world)) tt;
      }
  fresh_aim value d true hooked waits (is_bare which a none st h) = absurd (waits none refl)
  fresh_aim value d true hooked waits (is_seen l a none st h) = absurd (waits none refl)
  fresh_aim value d true hooked waits (is_held l a none h) = absurd (waits none refl)
  fresh_aim value d true hooked waits (is_waiting {ms = ms} {later = later} {ty = ty} a one h) =
      let after = behind_value here value Looked d (is_waiting a one h) in
      record {
        own = after.own;
        later = after.later;
        leaves = after.leaves;
        stage = after.stage;
        aims = at_made refl (λ world. at_waiting first_owner) tt;
      }

  -- a constant is read where it stands, and all else waits
  pub fresh_so : (value : Expr) → Distinct (path_nodes (Fresh value)) →
      ((literal : Literal) → constant_in value ≡ Some literal → Bare (form_for here.facts (type_of value)) (literal_value literal)) →
      (constant_in value ≡ None → gives_hooked here.facts (type_of value) ≡ true → waits_itself here.facts here.modes value Looked ≡ [] → ⊥) →
      (constant_in value ≡ None → ValueSo here scope limits root first places os value Looked) → Aim_so (Fresh value)
  fresh_so value d literal_so waits so = by (constant_in value) refl d
    where
      node : ℕ
      node = (node_of value).number

      hooked : Bool
      hooked = gives_hooked here.facts (type_of value)

      by : (c : Option Literal) → constant_in value ≡ c → Distinct (if_constant c [] (value_nodes value)) → (nodes : List ℕ) (s : State)
          (b : From here scope limits root first places os (if_constant c [] (value_nodes value)) nodes s.world) →
          Sees here scope limits root first places os s.world →
          Comes (Has_aim (Fresh value) (if_constant c [] (value_nodes value))
          (by_constant c (λ (literal : Literal). []) (waiting here.facts here.modes value Looked)) nodes b.territory.blocks s.world) NoExit
          (by_constant c (λ literal. give (Root (Made (literal_value literal))))
          (eval value Looked here >>= (λ v. give (fresh_root hooked here.level node v))) s)
      by (Some literal) is d nodes s b scene = record {
        own = [];
        later = nodes;
        leaves = leaves_none b.distinct;
        stage = stage_begins b.territory tt b.active;
        aims = at_made {n = 0} refl (λ world. at_constant (literal_so literal is world)) tt;
      }
      by None is d nodes s b scene =
          comes_then (eval value Looked here) (λ v. give (fresh_root hooked here.level node v))
          (HasValue here first places os value Looked nodes b.territory.blocks s.world)
          (Has_aim (Fresh value) (value_nodes value) (waiting here.facts here.modes value Looked) nodes b.territory.blocks s.world) NoExit s
          (so is nodes s b scene) (λ v now h. fresh_aim value d hooked refl (λ none q. waits is q none) h)
