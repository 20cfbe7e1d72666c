-- Paths that are read; `and` and `or`.
use Rattle.std.proofs.Common.{◌≡◌, refl, sym, ap, ap₂, subst, ◌∙◌, ℕ, Bool, true, false, inl, inr, ◌⊎◌, List, [], ◌∷◌, ◌++◌, Some}
use Rattle.std.specs.Prelude.{◌&&◌}
use Rattle.std.proofs.lemmas.Bool.{and_right}
use Rattle.nim_types.specs.Types.{Ty}
use Rattle.nim_types.specs.Forms.{Form, plain, hooked}
use Rattle.nim_program.specs.declared.expr.Node.{Node}
use Rattle.nim_program.specs.declared.operation.Use.{Use}
use Rattle.nim_program.specs.declared.operation.Use.TheVariants.{Owned, Given as ToPlace, Held, Lent, Looked}
use Rattle.nim_program.specs.declared.operation.Short.{Short}
use Rattle.nim_program.specs.declared.operation.Short.TheVariants.{And, Or}
use Rattle.nim_program.specs.Program.{Expr, Read, Early, Path, type_of, type_at, node_at}
use Rattle.nim_program.specs.Ints.{is_true, truth}
use Rattle.nim_program.specs.Scopes as scopes
use Rattle.nim_meaning.specs.ActTree as points
use Rattle.nim_meaning.specs.Ways.{At as Spot}
use Rattle.nim_meaning.specs.Values.{Value, Number, number_of}
use Rattle.nim_meaning.specs.Marks.{Member, Distinct}
use Rattle.nim_meaning.specs.State.{World, State}
use Rattle.nim_meaning.specs.Acts.{with_trail, worked}
use Rattle.nim_meaning.specs.Here.{Here, gives_hooked, form_for}
use Rattle.nim_meaning.specs.Waiting.{Wait, nodes_of, wait_if, waiting, waiting_at, reads_kept}
use Rattle.nim_meaning.specs.Shapes.{has_node}
use Rattle.nim_meaning.specs.Steps.{at_node, early}
use Rattle.nim_meaning.specs.Meaning.{eval, aimed}
use Rattle.holders.specs.Owned.{Constant, Has, a_number}
use Rattle.holders.specs.Sure.{Comes}
use Rattle.holders.specs.Territory.{Owner}
use Rattle.holders.specs.Running.{Region}
use Rattle.holders.specs.Used.{Used, read_by}
use Rattle.holders.proofs.Owning.{in_first, in_second, distinct_first, distinct_second, distinct_apart, plain_anywhere}
use Rattle.holders.proofs.Working.{all_so}
use Rattle.holders.proofs.Reading.{path_comes}
use Rattle.holders.proofs.Coming.{comes_then, comes_weaker}
use Rattle.holders.specs.Asked.{Limits}
use Rattle.holders.specs.Evaluating.{value_nodes, path_nodes, at_nodes, waits_itself, IsWaiting, Leaves, is_bare, is_seen, is_held, is_waiting}
use Rattle.holders.proofs.PartsInTurn.{begins_part, First, begins_next, stage_next, leaves_next, stage_wider, path_in, waiting_in, ends_then, in_is}
use Rattle.holders.proofs.PartsInTurn.{nodes_first}
use Rattle.holders.specs.Claimed.{NoExit, HasValue, ValueSo, HasAim, AimSo}
use Rattle.holders.proofs.Claims.{Behind, behind_value, value_bare, scene_passes, out_none, behind_alone}
use Rattle.holders.proofs.Constants.{hooked_is}
use Rattle.holders.proofs.OperandCopies.{aim_here}
use Rattle.holders.proofs.GroupsOver.{ends_none}
use Rattle.holders.proofs.Applying.{node_off}
use Rattle.holders.proofs.Staging.{out_as}
use Rattle.holders.specs.Becoming.{none}

module _ (here : Here) (scope : scopes.Here) (limits : Limits) (root : (global : Bool) → ℕ → ℕ) (first places : ℕ) (os : List Owner) where
  -- ---- a path

  module _ (path : Path) (node_there : has_node path ≡ true) (nodes later old : List ℕ) (start : World) (ms : List Owner)
      (leaves : Leaves here.level nodes (waiting_at here.facts here.modes path) ms later) where
    abbrev f : Form
    f = form_for here.facts (type_at path)

    abbrev R : Region
    R = at_nodes here.level ((node_at path).number ∷ path_nodes path)

    kept_one : (how : Use) → reads_kept how ≡ true → gives_hooked here.facts (type_at path) ≡ true →
        waits_itself here.facts here.modes (Read path) how ≡ record { node = (node_at path).number; of = type_at path; form = f } ∷ []
    kept_one how k hooks = ap₂ (λ a b. wait_if (a && b) (node_at path).number (type_at path) f) hooks (ap₂ (λ a b. a && b) node_there k)

    kept_none : (how : Use) → reads_kept how ≡ false → waits_itself here.facts here.modes (Read path) how ≡ []
    kept_none how k =
        ap (λ b. wait_if b (node_at path).number (type_at path) f)
        (and_right (gives_hooked here.facts (type_at path)) (has_node path && reads_kept how) (and_right (has_node path) (reads_kept how) k))

    used_valued : (b : Bool) → gives_hooked here.facts (type_at path) ≡ b → (how : Use) {v : Value} {now : World} →
        Used b how f (node_at path).number R ms os first places later old start v now → HasValue here first places os (Read path) how nodes old start v now
    used_valued false unhooked how u =
        is_bare (inl (sym (hooked_is here.facts (type_at path)) ∙ unhooked)) leaves
        (ap (λ a. wait_if (a && (has_node path && reads_kept how)) (node_at path).number (type_at path) f) unhooked) u.stage
        (λ world. plain_anywhere world Constant (sym (hooked_is here.facts (type_at path)) ∙ unhooked) u.has)
    used_valued true hooks Looked u = is_seen refl leaves (kept_none Looked refl) u.stage u.has
    used_valued true hooks Owned u = is_held (inl refl) leaves (kept_none Owned refl) u
    used_valued true hooks ToPlace u = is_held (inr refl) leaves (kept_none ToPlace refl) u
    used_valued true hooks Held u = is_waiting leaves (kept_one Held refl hooks) u
    used_valued true hooks Lent u = is_waiting leaves (kept_one Lent refl hooks) u

  pub read_so : (path : Path) (how : Use) → has_node path ≡ true → Distinct ((node_at path).number ∷ path_nodes path) →
      AimSo here scope limits root first places os path → ValueSo here scope limits root first places os (Read path) how
  read_so path how node_there d aim_so nodes s b scene =
      let ns = path_nodes path in
      let node = (node_at path).number in
      let ws = waiting_at here.facts here.modes path in
      let Q = HasValue here first places os (Read path) how nodes b.territory.blocks s.world in
      comes_then (aimed path here) (λ aim. read_by here how path aim)
      (HasAim here scope limits root first places os path ns ws nodes b.territory.blocks s.world) Q NoExit s
      (aim_so nodes s (begins_part (node ∷ ns) ns b (λ n m. inr m)) scene)
      (λ aim mid a.
      let st = stage_wider (node ∷ ns) ns (λ n m. inr m) a.stage in
      let c = aim_here {ms = a.own} (scene_passes ns a.stage.runs.passes scene) a.aims in
      comes_weaker (Used (gives_hooked here.facts (type_at path)) how (form_for here.facts (type_at path)) node (at_nodes here.level (node ∷ ns)) a.own os
      first places a.later b.territory.blocks s.world) NoExit Q NoExit (read_by here how path aim mid)
      (path_comes (at_nodes here.level (node ∷ ns)) a.own os first places a.later b.territory.blocks s.world here how path NoExit refl mid
      (in_is node (node ∷ ns) (inl refl))
      (node_off ws a.own node b (inl refl) (λ m. d.0 (path_in here.facts here.modes path node m)) a.leaves.cells) st c.aims)
      (λ v now u. used_valued path node_there nodes a.later b.territory.blocks s.world a.own a.leaves (gives_hooked here.facts (type_at path)) refl how u)
      (λ way now x. x))

  -- ---- `and` and `or`

  pub early_so : (node : Node) (ty : Ty) (short : Short) (left right : Expr) (how : Use) → form_for here.facts (Some ty) ≡ plain →
      Distinct (value_nodes left ++ value_nodes right) → gives_hooked here.facts (type_of left) ≡ false → gives_hooked here.facts (type_of right) ≡ false →
      form_for here.facts (type_of right) ≡ plain →
      ValueSo here scope limits root first places os left Owned → ValueSo here scope limits root first places os right Owned →
      ValueSo here scope limits root first places os (Early node ty short left right) how
  early_so node ty short left right how plain_is d left_bare unhooked right_plain left_so right_so nodes s b scene =
      comes_then (eval left Owned here) (λ x. at_node node.number points.Chooses (early short (is_true (number_of x)) (eval right Owned here)))
      (HasValue here first places os left Owned nodes b.territory.blocks s.world) Q NoExit (worked 1 s)
      (left_so nodes (worked 1 s) (begins_part (one ++ two) one b (λ n m. in_first n one two m)) scene)
      (λ x mid h. chosen short (is_true (number_of x)) (with_trail (Spot node.number points.Chooses ∷ mid.trail) mid)
      (behind_value here left Owned (distinct_first one two d) h) (out_none here left Owned (distinct_first one two d) (λ how. left_bare) h))
    where
      one : List ℕ
      one = value_nodes left

      two : List ℕ
      two = value_nodes right

      ws : List Wait
      ws = waiting here.facts here.modes left Owned

      vs : List Wait
      vs = waiting here.facts here.modes right Owned

      e : Expr
      e = Early node ty short left right

      Q : Value → World → Type 0
      Q = HasValue here first places os e how nodes b.territory.blocks s.world

      no_hooks : hooked (form_for here.facts (Some ty)) ≡ false
      no_hooks = ap hooked plain_is

      -- the right one isn't evaluated
      stopped : (holds : Bool) {mid : World} (a : Behind Owned left here first places nodes os b.territory.blocks s.world mid) →
          ((k : ℕ) → none k ≡ a.out k) → Q (Number (truth holds)) mid
      stopped holds {mid} a same =
          is_bare {later = a.later} (inl no_hooks) (record {
            cells = all_so (λ m. IsWaiting here.level ws m) (λ m. IsWaiting here.level (ws ++ vs) m) a.own
                (λ m w. record { node = w.node; base = w.base; among = nodes_first w.node ws vs w.among }) a.leaves.cells;
            ends = ends_then (ends_none vs (λ n m q. free n (waiting_in here.facts here.modes right Owned n q) (a.leaves.came n m))) a.leaves.ends;
            distinct = a.leaves.distinct;
            came = λ n m. wide n (a.leaves.came n m);
          }) refl (stage_wider (one ++ two) one (λ n m. in_first n one two m)
          (out_as (at_nodes here.level one) os first places b.territory.blocks s.world same a.stage))
          (λ world. subst (λ f. Has world Constant f (Number (truth holds)) []) (sym plain_is) a_number)
        where
          free : (n : ℕ) → Member n two → Member n nodes ⊎ Member n (nodes_of ws) → ⊥
          free n q (inl m) = b.free n m (in_second n one two q)
          free n q (inr m) = distinct_apart n one two d (waiting_in here.facts here.modes left Owned n m) q

          wide : (n : ℕ) → Member n nodes ⊎ Member n (nodes_of ws) → Member n nodes ⊎ Member n (nodes_of (ws ++ vs))
          wide n (inl m) = inl m
          wide n (inr m) = inr (nodes_first n ws vs m)

      goes_on : (mid : State) (a : Behind Owned left here first places nodes os b.territory.blocks s.world mid.world) → ((k : ℕ) → none k ≡ a.out k) →
          Comes Q NoExit (eval right Owned here mid)
      goes_on mid a same =
          let p : First here.level first places (one ++ two) one two os nodes ws a.own a.later s.world mid.world = record {
            before = b;
            of_one = λ n m. in_first n one two m;
            of_two = λ n m. in_second n one two m;
            inside = λ n m. waiting_in here.facts here.modes left Owned n m;
            apart = λ n m q. distinct_apart n one two d m q;
            leaves = a.leaves;
            stage = out_as (at_nodes here.level one) os first places b.territory.blocks s.world same a.stage;
          } in
          comes_weaker (HasValue here first places os right Owned a.later (begins_next p).territory.blocks mid.world) NoExit Q NoExit
          (eval right Owned here mid)
          (right_so a.later mid (begins_next p) (scene_passes one a.stage.runs.passes scene))
          (λ v last h.
          let after = behind_value here right Owned (distinct_second one two d) h in
          is_bare (inl no_hooks) (leaves_next p (λ n m. waiting_in here.facts here.modes right Owned n m) after.leaves) refl
          (stage_next p (behind_alone here right Owned (distinct_second one two d) (λ how. unhooked) h))
          (λ world. subst (λ f. Has world Constant f v []) (right_plain ∙ sym plain_is)
          (value_bare here right Owned unhooked h world))) (λ way now x. x)

      chosen : (short : Short) (holds : Bool) (mid : State) (a : Behind Owned left here first places nodes os b.territory.blocks s.world mid.world) →
          ((k : ℕ) → none k ≡ a.out k) → Comes Q NoExit (early short holds (eval right Owned here) mid)
      chosen And true mid a same = goes_on mid a same
      chosen And false mid a same = stopped false a same
      chosen Or true mid a same = stopped true a same
      chosen Or false mid a same = goes_on mid a same
