-- Parts of an expression, one after another: their nodes, and what waits behind them.
use Rattle.std.proofs.Common.{◌≡◌, refl, sym, ap, subst, ◌∙◌, ℕ, inl, inr, ◌⊎◌, Bool, true, false, suc, List, [], ◌∷◌, ◌++◌, Option, Some, None, arith}
use Rattle.std.specs.Prelude.{nat_eq, ◌||◌, ◌&&◌, if◌then◌else◌}
use Rattle.std.proofs.lemmas.Bool.{eqb-true, eq-eqb, false≢true, or_left, or_right}
use Rattle.nim_types.specs.Types.{Ty, Facts}
use Rattle.nim_types.specs.Forms.{Form}
use Rattle.nim_program.specs.declared.program.Mode.{Mode}
use Rattle.nim_program.specs.declared.operation.Use.{Use}
use Rattle.nim_program.specs.declared.operation.Use.TheVariants.{Owned, Looked}
use Rattle.nim_program.specs.Program.{ByConditions, ByLabels, Expr, Apply, Read, Early, Choose, Path, Variable, Fresh, Field, Element, Deref, Literal}
use Rattle.nim_program.specs.Program.{Args, NoArg, ByValue, ByPath, type_at, node_at, constant_in}
use Rattle.nim_program.specs.Folds.{if_constant, by_constant}
use Rattle.nim_program.specs.Uses.{use_of}
use Rattle.nim_program.specs.Fitting.{is_in}
use Rattle.nim_meaning.specs.Values.{Value, Base, Standing, Waiting, InBlock, InHand, InException, Made}
use Rattle.nim_meaning.specs.Marks.{Member, Distinct}
use Rattle.nim_meaning.specs.State.{World}
use Rattle.nim_meaning.specs.Waiting.{Wait, nodes_of, wait_if, own_wait, waiting, waiting_at, waiting_all, waiting_first, reads_kept}
use Rattle.nim_meaning.specs.Here.{gives_hooked, form_for}
use Rattle.nim_meaning.specs.Shapes.{is_read, waits, waits_from}
use Rattle.holders.specs.Territory.{Owner, AllOwners, first_owner}
use Rattle.holders.specs.Running.{IsOutside, Wider}
use Rattle.holders.specs.Staging.{Stage, Holding, StageWith}
use Rattle.holders.specs.Groups.{without_node, waiting_cell, Ends, no_waits, one_waits, none_waits}
use Rattle.holders.proofs.Owning.{in_first, in_second}
use Rattle.holders.proofs.Copying.{either_block}
use Rattle.holders.proofs.Working.{all_both, all_so, among_second, without_second}
use Rattle.holders.proofs.Framing.{own_wider, passes_wider, others_alone, stage_framed, holding_framed}
use Rattle.holders.specs.Evaluating.{value_nodes, path_nodes, operand_nodes, at_nodes, Begins, IsWaiting, Leaves}

-- ---- which nodes

pub in_is : (n : ℕ) (ns : List ℕ) → Member n ns → is_in n ns ≡ true
in_is n [] m = elim m [ ]
in_is n (k ∷ ns) (inl e) = or_left (nat_eq n k) (is_in n ns) (eq-eqb n k e)
in_is n (k ∷ ns) (inr m) = or_right (nat_eq n k) (is_in n ns) (in_is n ns m)

pub is_member : (n : ℕ) (ns : List ℕ) → is_in n ns ≡ true → Member n ns
is_member n [] e = absurd (false≢true e)
is_member n (k ∷ ns) e = by (nat_eq n k) refl e (λ q. is_member n ns q)
  where
    by : (b : Bool) → nat_eq n k ≡ b → b || is_in n ns ≡ true → (is_in n ns ≡ true → Member n ns) → Member n (k ∷ ns)
    by true q e rest = inl (eqb-true n k q)
    by false q e rest = inr (rest e)

pub wider_nodes : (level : ℕ) (ns sub : List ℕ) → ((n : ℕ) → Member n sub → Member n ns) → Wider (at_nodes level ns) (at_nodes level sub)
wider_nodes level ns sub within = record { outside = outside; level = refl; places = λ n e. e }
  where
    narrow : (node : ℕ) → (is_in node ns ≡ true → ⊥) → is_in node sub ≡ true → ⊥
    narrow node h e = h (in_is node ns (within node (is_member node sub e)))

    outside : (b : Base) → IsOutside (at_nodes level ns) b → IsOutside (at_nodes level sub) b
    outside (Standing l n) h = h
    outside (Waiting l node) (inl less) = inl less
    outside (Waiting l node) (inr q) = inr (q.0, narrow node q.1)
    outside (InBlock k) h = tt
    outside (InHand i) h = tt
    outside (InException i) h = tt
    outside (Made v) h = tt

-- what waits at a node is outside of a part without the node
pub waits_outside : (level node : ℕ) (ns : List ℕ) → (Member node ns → ⊥) → IsOutside (at_nodes level ns) (Waiting level node)
waits_outside level node ns h = inr (refl, λ e. h (is_member node ns e))

-- ---- what waits

pub nodes_both : (ws vs : List Wait) → nodes_of (ws ++ vs) ≡ nodes_of ws ++ nodes_of vs
nodes_both [] vs = refl
nodes_both (w ∷ ws) vs = ap (λ (ns : List ℕ). w.node ∷ ns) (nodes_both ws vs)

pub nodes_first : (n : ℕ) (ws vs : List Wait) → Member n (nodes_of ws) → Member n (nodes_of (ws ++ vs))
nodes_first n ws vs m = subst (λ ns. Member n ns) (sym (nodes_both ws vs)) (in_first n (nodes_of ws) (nodes_of vs) m)

pub nodes_second : (n : ℕ) (ws vs : List Wait) → Member n (nodes_of vs) → Member n (nodes_of (ws ++ vs))
nodes_second n ws vs m = subst (λ ns. Member n ns) (sym (nodes_both ws vs)) (in_second n (nodes_of ws) (nodes_of vs) m)

pub nodes_either : (n : ℕ) (ws vs : List Wait) (P : Type 0) → Member n (nodes_of (ws ++ vs)) → (Member n (nodes_of ws) → P) → (Member n (nodes_of vs) → P) → P
nodes_either n ws vs P m first second = either_block n (nodes_of ws) (nodes_of vs) P (subst (λ ns. Member n ns) (nodes_both ws vs) m) first second

-- ---- the nodes of what waits are those of the part

module _ (facts : Facts) (modes : (proc position : ℕ) → Mode) where
  own_in : (b : Bool) (n node : ℕ) (ty : Option Ty) (f : Form) → Member n (nodes_of (wait_if b node ty f)) → n ≡ node
  own_in true n node ty f (inl e) = e
  own_in true n node ty f (inr m) = elim m [ ]
  own_in false n node ty f m = elim m [ ]

  -- behind those of operands
  behind_own : (n node : ℕ) (ws : List Wait) (ns : List ℕ) (b : Bool) (ty : Option Ty) → (Member n (nodes_of ws) → Member n ns) →
      Member n (nodes_of (ws ++ own_wait facts modes b node ty)) → Member n (node ∷ ns)
  behind_own n node ws ns b ty inside m =
      nodes_either n ws (own_wait facts modes b node ty) (Member n (node ∷ ns)) m (λ q. inr (inside q))
      (λ q. inl (own_in (gives_hooked facts ty && b) n node ty (form_for facts ty) q))

  fresh_in : (constant : Option Literal) (ws : List Wait) (ns : List ℕ) (n : ℕ) → Member n (nodes_of (by_constant constant (λ (literal : Literal). []) ws)) →
      (Member n (nodes_of ws) → Member n ns) → Member n (if_constant constant [] ns)
  fresh_in None ws ns n m rest = rest m
  fresh_in (Some literal) ws ns n m rest = elim m [ ]

  mutual
    pub waiting_in : (e : Expr) (how : Use) (n : ℕ) → Member n (nodes_of (waiting facts modes e how)) → Member n (value_nodes e)
    waiting_in (Apply node ty act operands) how n m =
        behind_own n node.number (waiting_all facts modes operands (use_of modes act) 0) (operand_nodes operands) (waits_from act how) ty
        (λ q. operands_in operands (use_of modes act) 0 n q) m
    waiting_in (Read path) how n m =
        behind_own n (node_at path).number (waiting_at facts modes path) (path_nodes path) (is_read (Read path) && reads_kept how) (type_at path)
        (λ q. path_in path n q) m
    waiting_in (Early node ty short left right) how n m =
        nodes_either n (waiting facts modes left Owned) (waiting facts modes right Owned) (Member n (value_nodes left ++ value_nodes right)) m
        (λ q. in_first n (value_nodes left) (value_nodes right) (waiting_in left Owned n q))
        (λ q. in_second n (value_nodes left) (value_nodes right) (waiting_in right Owned n q))
    waiting_in (Choose node ty ByConditions parts) how n m =
        inl (own_in (gives_hooked facts ty && waits how) n node.number ty (form_for facts ty) m)
    waiting_in (Choose node ty (ByLabels labels) parts) how n m =
        behind_own n node.number (waiting_first facts modes parts) (operand_nodes parts) (waits how) ty (λ q. first_in parts n q) m

    pub path_in : (path : Path) (n : ℕ) → Member n (nodes_of (waiting_at facts modes path)) → Member n (path_nodes path)
    path_in (Variable node ty place global) n m = elim m [ ]
    path_in (Fresh value) n m =
        fresh_in (constant_in value) (waiting facts modes value Looked) (value_nodes value) n m (λ q. waiting_in value Looked n q)
    path_in (Field node ty base field) n m = path_in base n m
    path_in (Element node ty base index constant) n m =
        nodes_either n (waiting_at facts modes base) (waiting facts modes index Owned) (Member n (path_nodes base ++ value_nodes index)) m
        (λ q. in_first n (path_nodes base) (value_nodes index) (path_in base n q))
        (λ q. in_second n (path_nodes base) (value_nodes index) (waiting_in index Owned n q))
    path_in (Deref ty base) n m = path_in base n m

    pub operands_in : (args : Args) (uses : (position : ℕ) → Use) (i n : ℕ) → Member n (nodes_of (waiting_all facts modes args uses i)) →
        Member n (operand_nodes args)
    operands_in NoArg uses i n m = elim m [ ]
    operands_in (ByValue value rest) uses i n m =
        nodes_either n (waiting facts modes value (uses i)) (waiting_all facts modes rest uses (suc i)) (Member n (value_nodes value ++ operand_nodes rest)) m
        (λ q. in_first n (value_nodes value) (operand_nodes rest) (waiting_in value (uses i) n q))
        (λ q. in_second n (value_nodes value) (operand_nodes rest) (operands_in rest uses (suc i) n q))
    operands_in (ByPath path rest) uses i n m =
        nodes_either n (waiting_at facts modes path) (waiting_all facts modes rest uses (suc i)) (Member n (path_nodes path ++ operand_nodes rest)) m
        (λ q. in_first n (path_nodes path) (operand_nodes rest) (path_in path n q))
        (λ q. in_second n (path_nodes path) (operand_nodes rest) (operands_in rest uses (suc i) n q))

    pub first_in : (args : Args) (n : ℕ) → Member n (nodes_of (waiting_first facts modes args)) → Member n (operand_nodes args)
    first_in NoArg n m = elim m [ ]
    first_in (ByValue value rest) n m = in_first n (value_nodes value) (operand_nodes rest) (waiting_in value Looked n m)
    first_in (ByPath path rest) n m = in_first n (path_nodes path) (operand_nodes rest) (path_in path n m)

  -- those of an expression without its own node
  abbrev pub inside_nodes : Expr → List ℕ
  inside_nodes (Apply node ty act operands) = operand_nodes operands
  inside_nodes (Read path) = path_nodes path
  inside_nodes (Early node ty short left right) = value_nodes left ++ value_nodes right
  inside_nodes (Choose node ty chooser parts) = operand_nodes parts

-- ---- temporaries that end, of parts one after another

nothing_behind : (ms : List Owner) → ms ++ [] ≡ ms
nothing_behind [] = refl
nothing_behind (m ∷ ms) = ap (λ (ps : List Owner). m ∷ ps) (nothing_behind ms)

module _ {level : ℕ} where
  pub ends_behind : (ks : List Owner) {nodes : List ℕ} {ws : List Wait} {ms ns : List Owner} → Ends level nodes ws ms ns →
      Ends level nodes ws (ks ++ ms) (ks ++ ns)
  ends_behind ks no_waits = no_waits
  ends_behind ks {nodes} (one_waits {w = w} {ws = ws} {ms = ms} e i) =
      subst (λ ps. Ends level nodes (w ∷ ws) (ks ++ ms) ps) (without_second ks i) (one_waits (ends_behind ks e) (among_second ks i))
  ends_behind ks (none_waits e none) = none_waits (ends_behind ks e) none

  pub ends_then : {nodes : List ℕ} {ws vs : List Wait} {ms mid ns : List Owner} → Ends level nodes vs ms mid → Ends level nodes ws mid ns →
      Ends level nodes (ws ++ vs) ms ns
  ends_then a no_waits = a
  ends_then a (one_waits e i) = one_waits (ends_then a e) i
  ends_then a (none_waits e none) = none_waits (ends_then a e) none

  -- where no other node of theirs has a value then
  pub ends_later : {nodes later : List ℕ} {ws : List Wait} {ms ns : List Owner} →
      ((n : ℕ) → Member n later → Member n (nodes_of ws) → Member n nodes) → Ends level nodes ws ms ns → Ends level later ws ms ns
  ends_later h no_waits = no_waits
  ends_later h (one_waits e i) = one_waits (ends_later (λ n m q. h n m (inr q)) e) i
  ends_later {nodes} h (none_waits e none) = none_waits (ends_later (λ n m q. h n m (inr q)) e) (λ n m q. none n (h n m (inl q)) q)

  waits_more : {ws : List Wait} (vs : List Wait) (m : Owner) → IsWaiting level ws m → IsWaiting level (ws ++ vs) m
  waits_more {ws} vs m w = record { node = w.node; base = w.base; among = nodes_first w.node ws vs w.among }

  waits_behind : (ws : List Wait) {vs : List Wait} (m : Owner) → IsWaiting level vs m → IsWaiting level (ws ++ vs) m
  waits_behind ws {vs} m w = record { node = w.node; base = w.base; among = nodes_second w.node ws vs w.among }

  -- two parts
  pub leaves_then : {nodes middle later : List ℕ} {ws vs : List Wait} {ms ns : List Owner} → Leaves level nodes ws ms middle → Leaves level middle vs ns later →
      ((n : ℕ) → Member n (nodes_of ws) → Member n (nodes_of vs) → ⊥) → Leaves level nodes (ws ++ vs) (ms ++ ns) later
  leaves_then {nodes} {middle} {later} {ws} {vs} {ms} {ns} a b apart = record {
    cells = all_both (λ m. IsWaiting level (ws ++ vs) m) ms ns
        (all_so (λ m. IsWaiting level ws m) (λ m. IsWaiting level (ws ++ vs) m) ms (λ m w. waits_more vs m w) a.cells)
        (all_so (λ m. IsWaiting level vs m) (λ m. IsWaiting level (ws ++ vs) m) ns (λ m w. waits_behind ws m w) b.cells);
    ends = ends_then (subst (λ ps. Ends level later vs (ms ++ ns) ps) (nothing_behind ms) (ends_behind ms b.ends))
        (ends_later (λ n m q. back n q (b.came n m)) a.ends);
    distinct = b.distinct;
    came = λ n m. from n (b.came n m);
  }
    where
      back : (n : ℕ) → Member n (nodes_of ws) → Member n middle ⊎ Member n (nodes_of vs) → Member n middle
      back n q (inl m) = m
      back n q (inr m) = absurd (apart n q m)

      first : (n : ℕ) → Member n nodes ⊎ Member n (nodes_of ws) → Member n nodes ⊎ Member n (nodes_of (ws ++ vs))
      first n (inl m) = inl m
      first n (inr m) = inr (nodes_first n ws vs m)

      from : (n : ℕ) → Member n middle ⊎ Member n (nodes_of vs) → Member n nodes ⊎ Member n (nodes_of (ws ++ vs))
      from n (inl m) = first n (a.came n m)
      from n (inr m) = inr (nodes_second n ws vs m)

  -- nothing of its own
  pub leaves_none : {nodes : List ℕ} → Distinct nodes → Leaves level nodes [] [] nodes
  leaves_none d = record { cells = tt; ends = no_waits; distinct = d; came = λ n m. inl m }

-- ---- nodes without one

pub without_node_in : (ns : List ℕ) (node n : ℕ) → Member n (without_node ns node) → Member n ns
without_node_in [] node n m = m
without_node_in (x ∷ ns) node n m = by (nat_eq x node) m (λ q. without_node_in ns node n q)
  where
    by : (b : Bool) → Member n (if b then ns else x ∷ without_node ns node) → (Member n (without_node ns node) → Member n ns) → Member n (x ∷ ns)
    by true m rest = inr m
    by false (inl e) rest = inl e
    by false (inr m) rest = inr (rest m)

pub without_node_distinct : (ns : List ℕ) (node : ℕ) → Distinct ns → Distinct (without_node ns node)
without_node_distinct [] node d = tt
without_node_distinct (x ∷ ns) node d = by (nat_eq x node) (without_node_distinct ns node d.1)
  where
    by : (b : Bool) → Distinct (without_node ns node) → Distinct (if b then ns else x ∷ without_node ns node)
    by true rest = d.1
    by false rest = (λ m. d.0 (without_node_in ns node x m), rest)

-- it is gone
pub without_node_gone : (ns : List ℕ) (node : ℕ) → Distinct ns → Member node (without_node ns node) → ⊥
without_node_gone [] node d m = elim m [ ]
without_node_gone (x ∷ ns) node d m = by (nat_eq x node) refl m (λ q. without_node_gone ns node d.1 q)
  where
    by : (b : Bool) → nat_eq x node ≡ b → Member node (if b then ns else x ∷ without_node ns node) → (Member node (without_node ns node) → ⊥) → ⊥
    by true q m rest = d.0 (subst (λ k. Member k ns) (sym (eqb-true x node q)) m)
    by false q (inl e) rest = false≢true (sym q ∙ eq-eqb x node (sym e))
    by false q (inr m) rest = rest m

-- a value waits behind its operands
pub leaves_waits : {level : ℕ} {nodes later : List ℕ} {ws : List Wait} {ms : List Owner} (w : Wait) → Leaves level nodes ws ms later →
    (Member w.node (nodes_of ws) → ⊥) → Leaves level nodes (ws ++ w ∷ []) (waiting_cell level w ∷ ms) (w.node ∷ without_node later w.node)
leaves_waits {level} {nodes} {later} {ws} {ms} w a apart = record {
  cells = (
    record { node = w.node; base = refl; among = nodes_second w.node ws (w ∷ []) (inl refl) },
    all_so (λ m. IsWaiting level ws m) (λ m. IsWaiting level (ws ++ w ∷ []) m) ms (λ m q. waits_more (w ∷ []) m q) a.cells,
  );
  ends = ends_then (one_waits no_waits first_owner) (ends_later (λ n m q. back n q m) a.ends);
  distinct = (λ m. without_node_gone later w.node a.distinct m, without_node_distinct later w.node a.distinct);
  came = λ n m. from n m;
}
  where
    back : (n : ℕ) → Member n (nodes_of ws) → Member n (w.node ∷ without_node later w.node) → Member n later
    back n q (inl e) = absurd (apart (subst (λ k. Member k (nodes_of ws)) e q))
    back n q (inr m) = without_node_in later w.node n m

    wide : (n : ℕ) → Member n nodes ⊎ Member n (nodes_of ws) → Member n nodes ⊎ Member n (nodes_of (ws ++ w ∷ []))
    wide n (inl m) = inl m
    wide n (inr m) = inr (nodes_first n ws (w ∷ []) m)

    from : (n : ℕ) → Member n (w.node ∷ without_node later w.node) → Member n nodes ⊎ Member n (nodes_of (ws ++ w ∷ []))
    from n (inl e) = inr (nodes_second n ws (w ∷ []) (inl e))
    from n (inr m) = wide n (a.came n (without_node_in later w.node n m))

-- ---- parts, one after another

-- a part of a part
abbrev pub begins_part : {level first places : ℕ} {os : List Owner} (ns sub : List ℕ) {nodes : List ℕ} {world : World} →
    Begins level first places ns os nodes world → ((n : ℕ) → Member n sub → Member n ns) → Begins level first places sub os nodes world
begins_part {level} {os = os} ns sub b within = record {
  territory = b.territory;
  outside = all_so (λ o. IsOutside (at_nodes level ns) o.at.base) (λ o. IsOutside (at_nodes level sub) o.at.base) os
      (λ o h. (wider_nodes level ns sub within).outside o.at.base h) b.outside;
  active = b.active;
  distinct = b.distinct;
  free = λ n m q. b.free n m (within n q);
  deepest = b.deepest;
}

-- the cells of a part stand outside of a part with other nodes
pub cells_outside : (level : ℕ) (ws : List Wait) (other : List ℕ) → ((n : ℕ) → Member n (nodes_of ws) → Member n other → ⊥) → (ms : List Owner) →
    AllOwners (λ m. IsWaiting level ws m) ms → AllOwners (λ m. IsOutside (at_nodes level other) m.at.base) ms
cells_outside level ws other apart ms cells =
    all_so (λ m. IsWaiting level ws m) (λ m. IsOutside (at_nodes level other) m.at.base) ms
    (λ m w. subst (λ b. IsOutside (at_nodes level other) b) (sym w.base) (waits_outside level w.node other (λ q. apart w.node w.among q))) cells

-- the first of two parts was carried out
pub record First (level first places : ℕ) (ns one two : List ℕ) (os : List Owner) (nodes : List ℕ) (ws : List Wait) (ms : List Owner) (middle : List ℕ)
    (start mid : World) : Type 0 where
  pub before : Begins level first places ns os nodes start
  pub of_one : (n : ℕ) → Member n one → Member n ns
  pub of_two : (n : ℕ) → Member n two → Member n ns
  pub inside : (n : ℕ) → Member n (nodes_of ws) → Member n one
  pub apart : (n : ℕ) → Member n one → Member n two → ⊥
  pub leaves : Leaves level nodes ws ms middle
  pub stage : Stage (at_nodes level one) ms os first places middle before.territory.blocks start mid

-- the second begins
abbrev pub begins_next : {level first places : ℕ} {ns one two : List ℕ} {os : List Owner} {nodes : List ℕ} {ws : List Wait} {ms : List Owner}
    {middle : List ℕ} {start mid : World} → First level first places ns one two os nodes ws ms middle start mid →
    Begins level first places two os middle mid
begins_next {level} {ns = ns} {two = two} {os = os} {nodes = nodes} {ws = ws} {ms = ms} {mid = mid} p = record {
  territory = others_alone ms [] os mid p.stage.runs.territory;
  outside = (begins_part ns two p.before p.of_two).outside;
  active = p.stage.active;
  distinct = p.leaves.distinct;
  free = λ n m q. free n q (p.leaves.came n m);
  deepest = p.stage.runs.passes.count ∙ p.before.deepest;
}
  where
    free : (n : ℕ) → Member n two → Member n nodes ⊎ Member n (nodes_of ws) → ⊥
    free n q (inl m) = p.before.free n m (p.of_two n q)
    free n q (inr m) = p.apart n (p.inside n m) q

module _ {level first places : ℕ} {ns one two : List ℕ} {os : List Owner} {nodes : List ℕ} {ws : List Wait} {ms : List Owner} {middle : List ℕ}
    {start mid : World} (p : First level first places ns one two os nodes ws ms middle start mid) where
  abbrev wide : Wider (at_nodes level ns) (at_nodes level one)
  wide = wider_nodes level ns one p.of_one

  -- and both are a part of the whole
  pub stage_next : {out : ℕ → ℕ} {later : List ℕ} {ks : List Owner} {last : World} →
      StageWith out (at_nodes level two) ks os first places later (begins_next p).territory.blocks mid last →
      StageWith out (at_nodes level ns) (ms ++ ks) os first places later p.before.territory.blocks start last
  stage_next u =
      stage_framed ms [] (wider_nodes level ns two p.of_two) (own_wider wide ms p.stage.runs.own) p.stage.runs.territory p.stage.runs.came
      (passes_wider [] wide tt (λ k m. m) p.stage.runs.passes) (λ k. omega (arith, p.stage.runs.loses k))
      (cells_outside level ws two (λ n m q. p.apart n (p.inside n m) q) ms p.leaves.cells) u

  pub holding_next : {f : Form} {v : Value} {later : List ℕ} {ks : List Owner} {last : World} →
      Holding f v (at_nodes level two) ks os first places later (begins_next p).territory.blocks mid last →
      Holding f v (at_nodes level ns) (ms ++ ks) os first places later p.before.territory.blocks start last
  holding_next u =
      holding_framed (at_nodes level ns) (at_nodes level two) ms os p.before.territory.blocks start mid (wider_nodes level ns two p.of_two)
      (own_wider wide ms p.stage.runs.own) p.stage.runs.territory p.stage.runs.came
      (passes_wider [] wide tt (λ k m. m) p.stage.runs.passes) (λ k. omega (arith, p.stage.runs.loses k))
      (cells_outside level ws two (λ n m q. p.apart n (p.inside n m) q) ms p.leaves.cells) u

  -- what is left behind both
  pub leaves_next : {later : List ℕ} {vs : List Wait} {ks : List Owner} → ((n : ℕ) → Member n (nodes_of vs) → Member n two) →
      Leaves level middle vs ks later → Leaves level nodes (ws ++ vs) (ms ++ ks) later
  leaves_next inside_two a = leaves_then p.leaves a (λ n m q. p.apart n (p.inside n m) (inside_two n q))

-- a part is a part of the whole
abbrev pub stage_wider : {out : ℕ → ℕ} {level first places : ℕ} {os : List Owner} (ns sub : List ℕ) {nodes old : List ℕ} {ms : List Owner} {start now : World} →
    ((n : ℕ) → Member n sub → Member n ns) → StageWith out (at_nodes level sub) ms os first places nodes old start now →
    StageWith out (at_nodes level ns) ms os first places nodes old start now
stage_wider {level = level} ns sub {ms = ms} within s =
    let w = wider_nodes level ns sub within in
    record {
      runs = record {
        territory = s.runs.territory;
        own = own_wider w ms s.runs.own;
        came = s.runs.came;
        loses = s.runs.loses;
        passes = passes_wider [] w tt (λ k m. m) s.runs.passes;
      };
      active = s.active;
    }
