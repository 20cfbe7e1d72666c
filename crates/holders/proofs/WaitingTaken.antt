-- A value that waits is taken up: all else stays.
use Rattle.std.proofs.Common.{◌≡◌, refl, sym, ap, subst, ◌∙◌, arith, ℕ, suc, ◌+◌, Bool, true, false, inl, inr, ◌⊎◌, List, [], ◌∷◌, ◌++◌, length}
use Rattle.std.specs.Prelude.{nat_eq}
use Rattle.std.proofs.lemmas.Bool.{false≢true, eqb-true, eq-eqb}
use Rattle.nim_types.specs.Forms.{Form, Forms}
use Rattle.nim_program.specs.declared.operation.Use.{Use}
use Rattle.nim_program.specs.declared.operation.Use.TheVariants.{Lent, Held}
use Rattle.nim_program.specs.Program.{Expr, Path, Args, NoArg, ByValue, ByPath, type_of, type_at, node_of}
use Rattle.nim_meaning.specs.Values.{Value, Base, Waiting, InBlock, Location, deeper, at_base, Operand, Given, At}
use Rattle.nim_meaning.specs.Marks.{Member, Distinct}
use Rattle.nim_meaning.specs.State.{World}
use Rattle.nim_meaning.specs.Deeds.{Leaves as LeavesNode, changed}
use Rattle.nim_meaning.specs.Here.{Here, gives_hooked, form_for}
use Rattle.nim_meaning.specs.Waiting.{held_if}
use Rattle.nim_meaning.specs.Shapes.{is_text}
use Rattle.holders.specs.Owned.{Full, Has, IsBase, PartForm}
use Rattle.holders.specs.Becoming.{Strange, times}
use Rattle.holders.specs.Territory.{Owner, NoBaseOf, ClearOf, Territory, Among, first_owner, later_owner}
use Rattle.holders.specs.Working.{number, without}
use Rattle.holders.specs.Ways.{Step, Opens, an_object, an_array, a_block, letters, Way, arrived, a_step, Chain}
use Rattle.holders.specs.Finding.{Found, in_cell}
use Rattle.holders.specs.Handing.{UnderWay}
use Rattle.holders.specs.Running.{Region, IsOutside}
use Rattle.holders.specs.Staging.{StageWith}
use Rattle.holders.specs.Groups.{without_node, waiting_cell, Ends, no_waits, one_waits, none_waits}
use Rattle.nim_meaning.specs.Waiting.{Wait}
use Rattle.holders.proofs.Bases.{loaded}
use Rattle.holders.proofs.Working.{all_at, all_without, works_front, among_first, among_second, number_second, among_others, same_owner, front_often}
use Rattle.holders.proofs.Finding.{chain_owns}
use Rattle.holders.proofs.Running.{passes_then}
use Rattle.holders.proofs.Calling.{takes_up}
use Rattle.holders.proofs.FrameChanges.{value_leaves}
use Rattle.holders.specs.Asked.{Limits}
use Rattle.holders.proofs.PartsInTurn.{without_node_in, without_node_distinct, without_node_gone}
use Rattle.holders.specs.Evaluating.{IsWaiting, Leaves, Bare, root_at, path_steps}
use Rattle.holders.specs.Evaluating.{IsBare}

-- ---- cells

-- one of two lists
pub record Second (os : List Owner) (o : Owner) (n : ℕ) : Type 0 where
  pub at : Among os o
  pub is : number at ≡ n

pub among_split : (ms : List Owner) {os : List Owner} {o : Owner} (i : Among (ms ++ os) o) (n : ℕ) → number i ≡ length ms + n → Second os o n
among_split [] i n e = record { at = i; is = omega (arith, e) }
among_split (m ∷ ms) first_owner n e = absurd (omega (arith, e))
among_split (m ∷ ms) (later_owner i) n e = among_split ms i n (omega (arith, e))

abbrev pub waiting_node : Base → ℕ
waiting_node (Waiting l n) = n
waiting_node b = 0

-- cells at different nodes are different ones
pub apart_cells : {level m n : ℕ} {f g : Form} {os : List Owner} (i : Among os (record { form = f; at = at_base (Waiting level m) }))
    (j : Among os (record { form = g; at = at_base (Waiting level n) })) → (m ≡ n → ⊥) → number i ≡ number j → ⊥
apart_cells i j apart e = apart (ap (λ (o : Owner). waiting_node o.at.base) (same_owner i j e))

-- ---- ways stay where a value is taken up

pub way_further : {world : World} {o m : Owner} {path : List ℕ} {fs : Forms} {from : Location} {i : ℕ} {f : Form} → Way world o m path → Opens world m fs from →
    PartForm fs i f → Way world o (record { form = f; at = deeper from i }) (path ++ i ∷ [])
way_further arrived opens p = a_step opens p arrived
way_further (a_step op q w) opens p = a_step op q (way_further w opens p)

-- another base than the one at which it waited
module _ {world after : World} (b : Base) (block : (k : ℕ) → InBlock k ≡ b → ⊥)
    (keeps : (c : Base) (x : Value) → IsBase world c x → (c ≡ b → ⊥) → IsBase after c x) where
  pub way_kept : {os : List Owner} {o m : Owner} {path : List ℕ} → Territory os world → Chain os world o → (o.at.base ≡ b → ⊥) → Way world o m path →
      Way after o m path
  way_kept t c off arrived = arrived
  way_kept {os} t c off (a_step {i = i} (an_object {fs = fs} {l = l}) p w) =
      a_step an_object p (way_kept t (record { from = c.from; at = c.at; path = c.path ++ i ∷ []; way = way_further c.way an_object p }) off w)
  way_kept {os} t c off (a_step {i = i} (an_array {l = l}) p w) =
      a_step an_array p (way_kept t (record { from = c.from; at = c.at; path = c.path ++ i ∷ []; way = way_further c.way an_array p }) off w)
  way_kept {os} t c off (a_step {i = i} (a_block {l = l} e) p w) =
      let own = chain_owns t c in
      a_step (a_block (loaded after l own.stands_in (keeps l.base own.stands_in own.cell.at.base off)
      ∙ (sym (loaded world l own.stands_in own.cell.at.base) ∙ e)))
      p (way_kept t (record { from = c.from; at = c.at; path = c.path ++ i ∷ []; way = way_further c.way (a_block e) p }) (λ q. block _ q) w)
  way_kept {os} t c off (a_step {i = i} (letters {l = l} e) p w) =
      let own = chain_owns t c in
      a_step (letters (loaded after l own.stands_in (keeps l.base own.stands_in own.cell.at.base off)
      ∙ (sym (loaded world l own.stands_in own.cell.at.base) ∙ e)))
      p (way_kept t (record { from = c.from; at = c.at; path = c.path ++ i ∷ []; way = way_further c.way (letters e) p }) (λ q. block _ q) w)

  -- a place that was looked up
  pub found_kept : (ms ks os : List Owner) (r : ℕ) {n : ℕ} {steps : List Step} {f : Form} {l : Location} → Territory (ms ++ os) world → NoBaseOf b os →
      Found (ms ++ os) world true n steps f l → n ≡ length ms + r → Found (ks ++ os) after true (length ks + r) steps f l
  found_kept ms ks os r {steps = steps} {f = f} {l = l} t off (in_cell c goes) e =
      let second = among_split ms c.at r e in
      let start : Chain (ms ++ os) world c.from = record { from = c.from; at = c.at; path = []; way = arrived } in
      subst (λ n. Found (ks ++ os) after true n steps f l) (number_second ks second.at ∙ ap (λ n. length ks + n) second.is)
      (in_cell (record {
        from = c.from;
        at = among_second ks second.at;
        path = c.path;
        way = way_kept t start (λ q. all_at (λ o. b ≡ o.at.base → ⊥) off second.at (sym q)) c.way;
      }) goes)

-- ---- operands, where one was taken up

abbrev pub own_numbers : Here → Args → List ℕ
own_numbers here NoArg = []
own_numbers here (ByValue value rest) = held_if (gives_hooked here.facts (type_of value)) (node_of value).number (own_numbers here rest)
own_numbers here (ByPath path rest) = own_numbers here rest

pub own_rest : (here : Here) (value : Expr) (rest : Args) (n : ℕ) → Member n (own_numbers here rest) → Member n (own_numbers here (ByValue value rest))
own_rest here value rest n m = by (gives_hooked here.facts (type_of value))
  where
    by : (c : Bool) → Member n (held_if c (node_of value).number (own_numbers here rest))
    by true = inr m
    by false = m

pub own_first : (here : Here) (value : Expr) (rest : Args) → gives_hooked here.facts (type_of value) ≡ true →
    Member (node_of value).number (own_numbers here (ByValue value rest))
own_first here value rest hooks = subst (λ c. Member (node_of value).number (held_if c (node_of value).number (own_numbers here rest))) (sym hooks) (inl refl)

pub distinct_rest : (here : Here) (value : Expr) (rest : Args) → Distinct (own_numbers here (ByValue value rest)) → Distinct (own_numbers here rest)
distinct_rest here value rest d = by (gives_hooked here.facts (type_of value)) d
  where
    by : (c : Bool) → Distinct (held_if c (node_of value).number (own_numbers here rest)) → Distinct (own_numbers here rest)
    by true d = d.1
    by false d = d

pub distinct_one : (here : Here) (value : Expr) (rest : Args) → gives_hooked here.facts (type_of value) ≡ true →
    Distinct (own_numbers here (ByValue value rest)) →
    Member (node_of value).number (own_numbers here rest) → ⊥
distinct_one here value rest hooks d = (subst (λ c. Distinct (held_if c (node_of value).number (own_numbers here rest))) hooks d).0

-- values that nobody has any more, and others, for an operation
module _ (here : Here) (limits : Limits) (root : (global : Bool) → ℕ → ℕ) (uses : (position : ℕ) → Use) (ms os : List Owner) (blocks : List ℕ)
    (world : World) where
  pub data Taken : Args → (position : ℕ) → List Operand → (given : List ℕ) → Type 0 where
    none_taken : {i : ℕ} → Taken NoArg i [] []
    bare_taken : {value : Expr} {rest : Args} {i : ℕ} {v : Value} {xs : List Operand} {given : List ℕ} →
        IsBare here.facts (uses i) value → Bare (form_for here.facts (type_of value)) v →
        Taken rest (suc i) xs given → Taken (ByValue value rest) i (Given v ∷ xs) given
    held_taken : {value : Expr} {rest : Args} {i : ℕ} {v : Value} {xs : List Operand} {given : List ℕ} → uses i ≡ Held →
        (u : UnderWay (form_for here.facts (type_of value)) v (ms ++ os) blocks world) → Taken rest (suc i) xs given → Strange u.given given →
        Taken (ByValue value rest) i (Given v ∷ xs) (u.given ++ given)
    lent_taken : {value : Expr} {rest : Args} {i : ℕ} {xs : List Operand} {given : List ℕ} → uses i ≡ Lent → gives_hooked here.facts (type_of value) ≡ true →
        is_text value ≡ false → Among ms (record { form = form_for here.facts (type_of value); at = at_base (Waiting here.level (node_of value).number) }) →
        Taken rest (suc i) xs given → Taken (ByValue value rest) i (At (at_base (Waiting here.level (node_of value).number)) ∷ xs) given
    place_taken : {path : Path} {rest : Args} {i : ℕ} {steps : List Step} {l : Location} {xs : List Operand} {given : List ℕ} →
        Found (ms ++ os) world true (length ms + root_at root path) steps (form_for here.facts (type_at path)) l → steps ≡ path_steps path →
        Taken rest (suc i) xs given → Taken (ByPath path rest) i (At l ∷ xs) given

-- values under way stay so
pub record Carries (qs : List Owner) (blocks : List ℕ) (world : World) (ps : List Owner) (left : List ℕ) (after : World) : Type 0 where
  pub has : {f : Form} {v : Value} {bs : List ℕ} → Has world Full f v bs → Has after Full f v bs
  pub fewer : (k : ℕ) → Member k left → Member k blocks
  pub clear : (given : List ℕ) → ClearOf given qs → ClearOf given ps

abbrev pub carried_under : {qs ps : List Owner} {blocks left : List ℕ} {world after : World} {f : Form} {v : Value} → Carries qs blocks world ps left after →
    UnderWay f v qs blocks world → UnderWay f v ps left after
carried_under c u = record {
  given = u.given;
  has = c.has u.has;
  distinct = u.distinct;
  strange = λ k m n. u.strange k m (c.fewer k n);
  clear = c.clear u.given u.clear;
}

-- ---- one is taken up

pub without_first : (gs : List Owner) {os : List Owner} {o : Owner} (i : Among os o) → without (among_first gs i) ≡ without i ++ gs
without_first gs first_owner = refl
without_first gs (later_owner {p = p} i) = ap (λ (ps : List Owner). p ∷ ps) (without_first gs i)

pub record Turned (ps : List Owner) (blocks : List ℕ) (now : World) : Type 0 where
  pub territory : Territory ps now
  pub within : (k : ℕ) → Member k territory.blocks → Member k blocks
  pub as_often : (k : ℕ) → times k territory.blocks ≡ times k blocks

pub record StepUp (out : ℕ → ℕ) (f : Form) (node : ℕ) (r : Region) (ms os : List Owner) (first places : ℕ) (nodes old blocks : List ℕ)
    (start now after : World) :
    Type 0 where
  pub value : Value
  pub base : IsBase now (Waiting r.level node) value
  pub left_out : ℕ → ℕ
  pub stage : StageWith left_out r ms os first places (without_node nodes node) old start after
  pub under : UnderWay f value (ms ++ os) stage.runs.territory.blocks after
  pub within : (k : ℕ) → Member k stage.runs.territory.blocks → Member k blocks
  pub were : (k : ℕ) → Member k under.given → Member k blocks
  pub out_is : (k : ℕ) → left_out k ≡ out k + times k under.given

pub no_node : (level node k : ℕ) → InBlock k ≡ Waiting level node → ⊥
no_node level node k e = subst is_block e tt
  where
    is_block : Base → Type 0
    is_block (InBlock j) = Unit {0}
    is_block b = ⊥

pub step_up : {out : ℕ → ℕ} {f : Form} (r : Region) (ms os : List Owner) (first places : ℕ) (nodes old : List ℕ) (start now : World) (node : ℕ) →
    r.nodes node ≡ true →
    (i : Among ms (record { form = f; at = at_base (Waiting r.level node) })) (s : StageWith out r ms os first places nodes old start now) →
    StepUp out f node r (without i) os first places nodes old s.runs.territory.blocks start now (changed (LeavesNode r.level node) now)
step_up {out = out} {f = f} r ms os first places nodes old start now node mine i s =
    let cell : Owner = record { form = f; at = at_base (Waiting r.level node) } in
    let w = works_front (among_first os i) s.runs.territory in
    let turned = subst (λ ps. Turned (cell ∷ ps) s.runs.territory.blocks now) (without_first os i) (record {
      territory = w.territory;
      within = w.within;
      as_often = λ k. front_often (among_first os i) s.runs.territory k;
    }) in
    let u = takes_up r node mine (without i) os turned.territory s.active in
    record {
      value = u.value;
      base = u.base;
      left_out = λ k. out k + times k u.under.given;
      out_is = λ k. omega arith;
      stage = record {
        runs = record {
          territory = u.territory;
          own = all_without (λ m. IsOutside r m.at.base → ⊥) i s.runs.own;
          came = λ k m. s.runs.came k (turned.within k (u.within k m));
          passes = passes_then s.runs.passes (λ k m. s.runs.came k (turned.within k m)) u.passes;
          loses = λ k. omega (arith, s.runs.loses k, turned.as_often k, u.loses k);
        };
        active = (value_leaves now r.level first places node nodes s.active).here first places nodes s.active;
      };
      under = u.under;
      within = λ k m. turned.within k (u.within k m);
      were = λ k m. turned.within k (u.were k m);
    }

-- ---- what ends, where one was taken up

pub without_same : {os : List Owner} {o p : Owner} (i : Among os o) (j : Among os p) → number i ≡ number j → without i ≡ without j
without_same first_owner first_owner e = refl
without_same first_owner (later_owner j) e = absurd (zero_more e)
  where
    zero_more : {n : ℕ} → 0 ≡ suc n → ⊥
    zero_more e = omega (arith, e)
without_same (later_owner i) first_owner e = absurd (zero_more e)
  where
    zero_more : {n : ℕ} → suc n ≡ 0 → ⊥
    zero_more e = omega (arith, e)
without_same (later_owner {p = q} i) (later_owner j) e = ap (λ (ps : List Owner). q ∷ ps) (without_same i j (omega (arith, e)))

pub without_swap : {os : List Owner} {o p : Owner} (i : Among os o) (j : Among os p) (a : number i ≡ number j → ⊥) (b : number j ≡ number i → ⊥) →
    without (among_others i j a) ≡ without (among_others j i b)
without_swap first_owner first_owner a b = absurd (a refl)
without_swap first_owner (later_owner j) a b = refl
without_swap (later_owner i) first_owner a b = refl
without_swap (later_owner {p = q} i) (later_owner j) a b = ap (λ (ps : List Owner). q ∷ ps) (without_swap i j (λ e. a (ap suc e)) (λ e. b (ap suc e)))

pub same_or_other : (m n : ℕ) → (m ≡ n) ⊎ (m ≡ n → ⊥)
same_or_other m n = by (nat_eq m n) refl
  where
    by : (b : Bool) → nat_eq m n ≡ b → (m ≡ n) ⊎ (m ≡ n → ⊥)
    by true e = inl (eqb-true m n e)
    by false e = inr (λ q. false≢true (sym e ∙ eq-eqb m n q))

-- it is left among those that are, or it was one that ends
pub data LeftOver (level : ℕ) (later : List ℕ) (ws : List Wait) (ms ns : List Owner) (c : Owner) : Type 0 where
  left_over : (i : Among ns c) → Ends level later ws ms (without i) → LeftOver level later ws ms ns c
  ended_too : Ends level later ws ms ns → LeftOver level later ws ms ns c

pub ends_left : {level : ℕ} {nodes : List ℕ} {ws : List Wait} {ms ns : List Owner} {f : Form} (node : ℕ) → Distinct nodes → Ends level nodes ws ms ns →
    (a : Among ms (record { form = f; at = at_base (Waiting level node) })) →
    LeftOver level (without_node nodes node) ws (without a) ns (record { form = f; at = at_base (Waiting level node) })
ends_left node d no_waits a = left_over a no_waits
ends_left {level} {nodes} node d (none_waits {w = w} {ws = ws} e none) a = by (ends_left node d e a)
  where
    by : {ms ns : List Owner} {c : Owner} → LeftOver level (without_node nodes node) ws ms ns c → LeftOver level (without_node nodes node) (w ∷ ws) ms ns c
    by (left_over i e) = left_over i (none_waits e (λ n m. none n (without_node_in nodes node n m)))
    by (ended_too e) = ended_too (none_waits e (λ n m. none n (without_node_in nodes node n m)))
ends_left {level} {nodes} {f = f} node d (one_waits {w = w} {ws = ws} e i) a = by i (ends_left node d e a)
  where
    cell : Owner
    cell = record { form = f; at = at_base (Waiting level node) }

    by : {ms ns : List Owner} (i : Among ns (waiting_cell level w)) → LeftOver level (without_node nodes node) ws ms ns cell →
        LeftOver level (without_node nodes node) (w ∷ ws) ms (without i) cell
    by i (ended_too e) = ended_too (one_waits e i)
    by {ms} {ns} i (left_over j e) = which (same_or_other (number j) (number i))
      where
        which : (number j ≡ number i) ⊎ (number j ≡ number i → ⊥) → LeftOver level (without_node nodes node) (w ∷ ws) ms (without i) cell
        which (inl q) =
            let same : node ≡ w.node = ap (λ (o : Owner). waiting_node o.at.base) (same_owner j i q) in
            ended_too (subst (λ ps. Ends level (without_node nodes node) (w ∷ ws) ms ps) (without_same j i q)
            (none_waits e (λ n m z. without_node_gone nodes node d (subst (λ k. Member k (without_node nodes node)) (z ∙ sym same) m))))
        which (inr q) =
            left_over (among_others i j (λ z. q (sym z)))
            (subst (λ ps. Ends level (without_node nodes node) (w ∷ ws) ms ps) (without_swap j i q (λ z. q (sym z)))
            (one_waits e (among_others j i q)))

pub none_left_over : {level : ℕ} {later : List ℕ} {ws : List Wait} {ms : List Owner} {c : Owner} → LeftOver level later ws ms [] c → Ends level later ws ms []
none_left_over (ended_too e) = e
none_left_over (left_over i e) = elim i [ ]

pub leaves_left : {level : ℕ} {nodes later : List ℕ} {ws : List Wait} {ms : List Owner} {f : Form} (node : ℕ) → Leaves level nodes ws ms later →
    (a : Among ms (record { form = f; at = at_base (Waiting level node) })) → Leaves level nodes ws (without a) (without_node later node)
leaves_left {level} {later = later} {ws = ws} node h a = record {
  cells = all_without (λ m. IsWaiting level ws m) a h.cells;
  ends = none_left_over (ends_left node h.distinct h.ends a);
  distinct = without_node_distinct later node h.distinct;
  came = λ n m. h.came n (without_node_in later node n m);
}
