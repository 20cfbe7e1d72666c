-- Loops: while a test holds, over a range, and over elements of what stands somewhere, of which each turn has a copy.
use Rattle.std.proofs.Common.{◌≡◌, refl, sym, ap, subst, arith, ℕ, ◌+◌, ◌<◌, ◌≤◌, inl, inr, Bool, true, false, List, [], ◌∷◌, ◌++◌, ◌∙◌}
use Rattle.std.specs.Prelude.{◌||◌, not, nat_eq, nat_lt, ℤ}
use Rattle.std.proofs.lemmas.Bool.{false≢true, eqb-true, ltb-true}
use Rattle.nim_types.specs.Forms.{Form, plain, form_of, hooked}
use Rattle.nim_program.specs.declared.operation.Use.TheVariants.{Owned}
use Rattle.nim_program.specs.Program.{Expr, Args, NoArg, ByValue, Declared, type_of, ByPath}
use Rattle.nim_program.specs.Folds.{lists, node_numbers, total, totals}
use Rattle.nim_program.specs.Traps.{LengthChanged}
use Rattle.nim_program.specs.Numbering.{numbers_of}
use Rattle.nim_program.specs.Kinds.{is_bool, kind_if}
use Rattle.nim_program.specs.Scopes as scopes
use Rattle.nim_program.specs.Scopes.{with_place}
use Rattle.nim_program.specs.Typed.{is_typed, are_typed}
use Rattle.nim_meaning.specs.Values.{Value, Number, Standing, Location, length_of, item_of}
use Rattle.nim_meaning.specs.Marks.{Member}
use Rattle.nim_meaning.specs.State.{World, State}
use Rattle.nim_meaning.specs.Acts.{Exit, Does, branch, loop, ◌>>=◌}
use Rattle.nim_meaning.specs.Deeds.{carry, stop, unless_gone}
use Rattle.nim_meaning.specs.Deeds as deeds
use Rattle.nim_meaning.specs.Here.{Here, is_hooked, gives_hooked}
use Rattle.nim_meaning.specs.Waiting.{Wait}
use Rattle.nim_meaning.specs.Places.{as_long, item_at, fetched_item, fetched, to_one}
use Rattle.nim_meaning.specs.Aims.{Aim, Ready, find}
use Rattle.nim_meaning.specs.Steps.{grouped, waits_in, ended_value}
use Rattle.nim_meaning.specs.Meaning.{eval, fill, fill_from, scoped, count_turn, each_turn, while_turn, head_values, still, element_at, element_for}
use Rattle.holders.specs.Owned.{Constant, Has, a_number}
use Rattle.holders.specs.Sure.{Sure, Comes}
use Rattle.holders.specs.Territory.{Owner, Territory, NoBaseOf}
use Rattle.holders.specs.Ways.{Step, to_element}
use Rattle.holders.specs.Finding.{Found, AimsAt, ItemForm, Fetched, steps_of}
use Rattle.holders.specs.Running.{Region}
use Rattle.holders.specs.Staging.{Stage}
use Rattle.holders.specs.Called.{LeftBy}
use Rattle.holders.specs.Asked.{Limits, AllAsked, Asked, FactsOfTheirSort, may_write_at}
use Rattle.holders.specs.Evaluating.{operand_nodes, Hand, AllReady, AllLast}
use Rattle.holders.specs.Evaluating.{Readied, none_ready, bare_ready, held_ready, lent_ready, aim_ready, seen_ready, copy_ready, hand_ready}
use Rattle.holders.specs.Claimed.{NoExit, InBody, known_at}
use Rattle.holders.specs.BodyParts.{part_region, PartBegins, own_cell, Sights, Pending, Over, PartSo}
use Rattle.holders.specs.Numbered.{Numbered}
use Rattle.holders.proofs.Owning.{in_first, in_second}
use Rattle.holders.proofs.Sure.{sure_weaker}
use Rattle.holders.proofs.Guards.{sure_reads}
use Rattle.holders.proofs.Coming.{comes_then, comes_weaker, comes_answered, comes_carried}
use Rattle.holders.proofs.Finding.{finds, ItemsThere, items_there}
use Rattle.holders.proofs.PlainRows.{read_found, fetches}
use Rattle.holders.proofs.PartsInTurn.{in_is, operands_in}
use Rattle.holders.proofs.Statements.{fill_comes, plain_held, while_comes, count_comes, each_comes}
use Rattle.holders.proofs.PlaceCopies.{fill_from_comes}
use Rattle.holders.proofs.WholeExpressions.{CallsSo}
use Rattle.holders.proofs.NodesRise.{operands_distinct, operand_members, rise_first}
use Rattle.holders.proofs.BodyParts.{value_begins, starts_over, part_again}
use Rattle.holders.proofs.BodyValues.{group_so, found_elsewhere, no_place_there}
use Rattle.holders.proofs.BodyHeads.{Headed, scoped_so}
use Rattle.holders.proofs.BodySights.{sights_more}
use Rattle.holders.proofs.BodyNumbers.{numbers_second, place_new, rise_apart}
use Rattle.holders.proofs.BodyStatements.{operands_at, test_so}
use Rattle.holders.proofs.Staging.{hand_alone, IsHeld}
use Rattle.nim_program.specs.declared.operation.Use.{Use}

-- heads whose values have no hooks
abbrev pub AllBare : Here → Args → Type 0
AllBare here NoArg = Unit {0}
AllBare here (ByValue value rest) = (gives_hooked here.facts (type_of value) ≡ false) × AllBare here rest
AllBare here (ByPath path rest) = AllBare here rest

-- have nothing under way
pub head_free : {here : Here} {scope : scopes.Here} {limits : Limits} {root : (global : Bool) → ℕ → ℕ} {uses : (position : ℕ) → Use} {ms os : List Owner}
    {now : World} {h : Hand} {args : Args} {i : ℕ} {xs : List Ready} → AllBare here args → Readied here scope limits root uses ms os now h args i xs →
    IsHeld h → ⊥
head_free all none_ready q = q
head_free all (bare_ready which b more) q = head_free all.1 more q
head_free all (held_ready purpose hooks a stands more) q = head_free all.1 more q
head_free all (lent_ready purpose hooks own a more) q = head_free all.1 more q
head_free all (aim_ready a more) q = head_free all more q
head_free all (seen_ready purpose b) q = q
head_free all (copy_ready purpose hooks f) q = q
head_free all (hand_ready purpose hooks) q = false≢true (sym all.0 ∙ hooks)

-- what isn't written in a loop isn't written around it
pub less_written : (kept : ℕ → Bool) (place : Declared) (n : ℕ) → not (nat_eq place.number n || kept n) ≡ true → not (kept n) ≡ true
less_written kept place n e = by (nat_eq place.number n) e
  where
    by : (b : Bool) → not (b || kept n) ≡ true → not (kept n) ≡ true
    by true e = absurd (false≢true e)
    by false e = e

-- ---- elements

module _ {os : List Owner} {world : World} {may : Bool} {root : ℕ} {steps : List Step} {f g : Form} {l : Location}
    (e : ItemsThere os world may root steps f g l) where
  pub long_so : (n : ℕ) → Sure (as_long l n) (λ u after. (after ≡ world) × (length_of e.value ≡ n)) world
  long_so n =
      sure_reads (λ world v. branch (nat_eq (length_of v) n) (deeds.give {A = Unit {0}} tt) (stop LengthChanged))
      (λ u after. (after ≡ world) × (length_of e.value ≡ n)) e.from e.whole e.has (by (nat_eq (length_of e.value) n) refl)
    where
      by : (b : Bool) → nat_eq (length_of e.value) n ≡ b →
          Sure (branch b (deeds.give {A = Unit {0}} tt) (stop LengthChanged)) (λ u after. (after ≡ world) × (length_of e.value ≡ n)) world
      by true q = (refl, eqb-true (length_of e.value) n q)
      by false q = tt

  pub item_so : (i : ℕ) → i < length_of e.value → Sure (item_at l i) (λ m after. (after ≡ world) × Found os world may root (steps ++ to_element ∷ []) g m) world
  item_so i less =
      sure_reads (λ world v. to_one v l i) (λ m after. (after ≡ world) × Found os world may root (steps ++ to_element ∷ []) g m) e.from e.whole e.has
      (subst (λ b. Sure (unless_gone b (deeds.give (item_of e.value l i))) (λ m after. (after ≡ world) × Found os world may root (steps ++ to_element ∷ []) g m)
      world) (sym e.places) (refl, e.items i less))

  fetched_so : Territory os world → (i : ℕ) → i < length_of e.value → Sure (fetched_item l i) (Fetched g world) world
  fetched_so t i less =
      sure_reads (λ world v. fetched (item_of v l i)) (Fetched g world) e.from e.whole e.has (fetches (read_found t (e.items i less)))

pub record AsLong (os : List Owner) (world : World) (may : Bool) (root : ℕ) (steps : List Step) (f g : Form) (l : Location) (n : ℕ) : Type 0 where
  pub there : ItemsThere os world may root steps f g l
  pub long : length_of there.value ≡ n

record Got (os : List Owner) (world : World) (g : Form) (v : Value) : Type 0 where
  blocks : List ℕ
  has : Has world Constant g v blocks

module _ (here : Here) (first places : ℕ) (sorted : FactsOfTheirSort here.facts) (OfCall : Limits → ℕ → Args → Type 0) (Known : scopes.Here → Type 0)
    (calls : (scope : scopes.Here) → Known scope → (limits : Limits) (root : (global : Bool) → ℕ → ℕ) (os : List Owner) →
    CallsSo here scope limits root first places os (OfCall limits)) where
  abbrev known : scopes.Here → scopes.Here
  known scope = known_at here scope

  abbrev Part : {A : Type 0} → scopes.Here → Limits → (ps ns : List ℕ) → Does A → Type 0
  Part scope limits ps ns act = PartSo here first places (known scope) limits ps ns act

  -- ---- while a test holds

  pub while_so : (scope : scopes.Here) → Known scope → (limits : Limits) (node : ℕ) (e : Expr) → is_typed (known scope) e ≡ true →
      Asked here.facts limits (OfCall limits) e → is_bool (kind_if here.facts (type_of e)) ≡ true → (hd bd : List Declared) (bn : List ℕ)
      (body : Does (Unit {0})) →
      Numbered here first places (known scope) limits (hd ++ bd) (totals lists node_numbers (ByValue e NoArg) ++ bn) →
      Part scope limits (numbers_of bd) bn body →
      Part scope limits (numbers_of (hd ++ bd)) (totals lists node_numbers (ByValue e NoArg) ++ bn)
      (loop (while_turn node (ended_value here e Owned (eval e Owned here)) body) tt)
  while_so scope ok limits node e typed asked bool hd bd bn body numbers body_so os nodes s b sights =
      let te = total lists node_numbers e in
      let hn = totals lists node_numbers (ByValue e NoArg) in
      let ns = hn ++ bn in
      let ps = numbers_of (hd ++ bd) in
      let test = ended_value here e Owned (eval e Owned here) in
      while_comes node test body (λ after. Over here first places (known scope) limits ps ns os nodes b.territory.blocks s.world after)
      (λ now j. part_again here first places (known scope) limits ps ns [] te test (λ n m. elim m [ ])
      (λ n m. in_first n hn bn (in_first n te [] m)) numbers.none
      (test_so here first places sorted OfCall Known calls scope ok limits e typed asked bool numbers.from_node
      (rise_first numbers.from_node te [] (rise_first numbers.from_node hn bn numbers.nodes))) b sights now j)
      (λ now j. part_again here first places (known scope) limits ps ns (numbers_of bd) bn body (λ n m. numbers_second n hd bd m)
      (λ n m. in_second n hn bn m) numbers.none body_so b sights now j) s (starts_over ps ns b)

  -- ---- heads

  -- what is left of a loop behind its head
  module _ (scope : scopes.Here) (ok : Known scope) (limits : Limits) (named : (n : ℕ) → limits.seen false n ≡ true) (place : Declared) (head : Args)
      (typed : are_typed (known scope) head ≡ true) (asked : AllAsked here.facts limits (OfCall limits) head) (hd bd : List Declared) (bn : List ℕ)
      (numbers : Numbered here first places (known scope) limits (place ∷ (hd ++ bd)) (totals lists node_numbers head ++ bn)) where
    abbrev hn : List ℕ
    hn = totals lists node_numbers head

    abbrev ps : List ℕ
    ps = numbers_of (place ∷ (hd ++ bd))

    abbrev ns : List ℕ
    ns = hn ++ bn

    abbrev ips : List ℕ
    ips = numbers_of (place ∷ bd)

    abbrev ws : List Wait
    ws = waits_in here head

    pub in_head : (n : ℕ) → Member n (operand_nodes head) → Member n hn
    in_head n m = operand_members (known scope) head typed n m

    pub of_places : (n : ℕ) → Member n ips → Member n ps
    of_places n (inl e) = inl e
    of_places n (inr m) = inr (numbers_second n hd bd m)

    place_once : Member place.number (numbers_of bd) → ⊥
    place_once m = place_new place (hd ++ bd) numbers (numbers_second place.number hd bd m)

    abbrev pub headed : {os : List Owner} {nodes : List ℕ} {start mid : World} {xs : List Ready} (b : PartBegins here.level first places ps ns os nodes start)
        (sights : Sights here (known scope) limits os start) →
        AllReady here (known scope) limits sights.root (λ i. Owned) head 0 first places nodes os b.territory.blocks start xs mid →
        AllBare here head → Headed here first places (known scope) limits ps ns (operand_nodes head) ips bn ws os nodes start mid
    headed b sights a bare = record {
      before = b;
      sights = sights;
      of_head = λ n m. in_first n hn bn (in_head n m);
      of_places = of_places;
      of_nodes = λ n m. in_second n hn bn m;
      apart = λ n m q. rise_apart numbers.from_node hn bn numbers.nodes n (in_head n m) q;
      inside = λ n m. operands_in here.facts here.modes head (λ i. Owned) 0 n m;
      own = a.own;
      later = a.later;
      leaves = a.leaves;
      stage = hand_alone a.hand (head_free bare a.ready) a.stage;
    }

    -- the head is evaluated, then the loop runs
    pub head_then : (node : ℕ) (rest : List Ready → Does (Unit {0})) → AllLast here (λ i. Owned) head 0 →
        ((os : List Owner) (nodes : List ℕ) (start : World) (mid : State) (xs : List Ready) (b : PartBegins here.level first places ps ns os nodes start)
        (sights : Sights here (known scope) limits os start)
        (a : AllReady here (known scope) limits sights.root (λ i. Owned) head 0 first places nodes os b.territory.blocks start xs mid.world) →
        Comes (λ u after. Pending (part_region here.level ps ns) [] os first places nodes ws b.territory.blocks start after)
        (LeftBy (λ after. Pending (part_region here.level ps ns) [] os first places nodes ws b.territory.blocks start after)) (rest xs mid)) →
        Part scope limits ps ns (grouped here node ws (head_values head here >>= rest))
    head_then node rest last rest_so os nodes s b sights =
        let W : World → Type 0 = λ after. Pending (part_region here.level ps ns) [] os first places nodes ws b.territory.blocks s.world after in
        let R : List Ready → World → Type 0 = AllReady here (known scope) limits sights.root (λ i. Owned) head 0 first places nodes os
        b.territory.blocks s.world
        in
        group_so here first places ps ns os nodes b.territory.blocks s.world node [] [] ws (head_values head here >>= rest)
        (λ n m. in_first n hn bn (in_head n (operands_in here.facts here.modes head (λ i. Owned) 0 n m))) s
        (comes_then (head_values head here) rest R (λ u after. W after) (LeftBy W) _
        (comes_weaker R NoExit R (LeftBy W) (head_values head here _)
        (operands_at here first places sorted OfCall Known calls scope ok limits sights.root os head (λ i. Owned) 0 typed asked
        (operands_distinct (known scope) numbers.from_node head typed (rise_first numbers.from_node hn bn numbers.nodes)) last nodes _
        (value_begins ps ns (operand_nodes head) b (λ n m. in_first n hn bn (in_head n m))) sights.scene)
        (λ xs now a. a) (λ way now q. absurd q))
        (λ xs mid a. rest_so os nodes s.world mid xs b sights a))

    -- in the scope of its place
    module _ (more : Limits) (seen : (g : Bool) (n : ℕ) → more.seen g n ≡ true → limits.seen g n ≡ true)
        (writes : (g : Bool) (n : ℕ) → may_write_at more g n ≡ true → may_write_at limits g n ≡ true) (last : ℕ) (body : Does (Unit {0}))
        (body_so : Part (with_place scope place) more (numbers_of bd) bn body) {os : List Owner} {nodes : List ℕ} {start : World}
        (b : PartBegins here.level first places ips bn os nodes start) (sights : Sights here (known scope) limits os start) where
      abbrev r : Region
      r = part_region here.level ips bn

      abbrev J : World → Type 0
      J after = Over here first places (known scope) limits ips bn os nodes b.territory.blocks start after

      abbrev InScope : World → Type 0
      InScope after = InBody r (own_cell here place ∷ []) os first places nodes b.territory.blocks start after

      mine : Member place.number ips
      mine = inl refl

      off : NoBaseOf (Standing here.level place.number) os
      off = no_place_there here.level place.number ips bn os mine b.outside

      bounds : (first ≤ place.number) × (place.number < first + places)
      bounds = numbers.bounds place.number (inl refl)

      pub in_scope : (now : State) → InScope now.world → Comes (λ u after. J after) (LeftBy J) (scoped here place last body now)
      in_scope now c =
          scoped_so here first places (known scope) limits ips bn (known (with_place scope place)) more (numbers_of bd) bn place last body mine (λ n m. inr m)
          (λ n m. m) place_once (λ g n ty s e same m. numbers.none g n ty s e same (of_places n m)) body_so b sights now
          (λ there. sights_more here (known scope) limits more place
          (λ ty e. numbers.none false place.number ty (named place.number) e refl (inl refl)) seen writes there) c

      -- a value without hooks
      pub plain_fills : (X : Exit → World → Type 0) (v : Value) {bs : List ℕ} (now : State) → J now.world → hooked (form_of here.facts place.of) ≡ false →
          Has now.world Constant (form_of here.facts place.of) v bs → Comes (λ u after. InScope after) X (fill here place.number v now)
      plain_fills X v now j unhooked has =
          comes_weaker (λ u after. Stage r (own_cell here place ∷ []) os first places j.later b.territory.blocks start after) X (λ u after. InScope after) X
          (fill here place.number v now)
          (fill_comes {ms = []} here place.number X refl now (plain_held unhooked has j.stage) bounds.0 bounds.1 (in_is place.number ips mine) off)
          (λ u after st. record { later = j.later; stage = st; distinct = j.distinct; came = j.came }) (λ way after q. q)

      -- ---- over a range

      pub counts : (node : ℕ) (top from : ℤ) → form_of here.facts place.of ≡ plain → (s : State) → s.world ≡ start →
          Comes (λ u after. J after) (LeftBy J) (loop (count_turn node here place last body top) from s)
      counts node top from number s same =
          count_comes node here place last body top J InScope
          (λ i now j. plain_fills (λ way after. ⊥) (Number i) now j (ap hooked number)
          (subst (λ f. Has now.world Constant f (Number i) []) (sym number) a_number))
          (λ now c. in_scope now c) from s (subst J (sym same) (starts_over ips bn b))

      -- ---- over elements

      module _ (aim : Aim) (may : Bool) (position : ℕ) (f : Form) (item : ItemForm f (form_of here.facts place.of))
          (aims : (now : World) → J now → AimsAt os now may position aim f) where
        abbrev g : Form
        g = form_of here.facts place.of

        abbrev ss : List Step
        ss = steps_of aim

        pub elements : (node : ℕ) (len i : ℕ) (borrows : Bool) → (borrows ≡ true → is_hooked here.facts place.of ≡ true → ⊥) → (s : State) → s.world ≡ start →
            Comes (λ u after. J after) (LeftBy J) (loop (each_turn node here place borrows last body aim len) i s)
        elements node len i borrows own s same =
            each_comes node here place borrows last body aim len J InScope L M N V finds_it stays items fills reads sets (λ now c. in_scope now c) i s
            (subst J (sym same) (starts_over ips bn b))
          where
            L : Location → World → Type 0
            L l after = J after × Found os after may position ss f l

            M : Location → World → Type 0
            M l after = J after × AsLong os after may position ss f g l len

            N : Location → World → Type 0
            N m after = J after × Found os after may position (ss ++ to_element ∷ []) g m

            V : Value → World → Type 0
            V v after = J after × Got os after g v

            finds_it : (now : State) → J now.world → Comes L (LeftBy J) (find aim now)
            finds_it now j =
                let Is : Location → World → Type 0 = λ l after. (after ≡ now.world) × Found os now.world may position ss f l in
                comes_weaker Is (LeftBy J) L (LeftBy J) (find aim now)
                (comes_answered Is (LeftBy J) (find aim now) (finds now j.stage.runs.territory (aims now.world j)))
                (λ l after p. (subst J (sym p.0) j, subst (λ w. Found os w may position ss f l) (sym p.0) p.1)) (λ way after q. q)

            stays : (l : Location) (now : State) → L l now.world → Comes (λ u after. M l after) (LeftBy J) (still l len now)
            stays l now p =
                let there = items_there p.0.stage.runs.territory item p.1 in
                comes_carried (λ u after. M l after) (LeftBy J) (as_long l len) now
                (sure_weaker (as_long l len) (λ u after. (after ≡ now.world) × (length_of there.value ≡ len)) (λ u after. M l after) now.world
                (long_so there len)
                (λ u after q. subst (λ w. M l w) (sym q.0) (p.0, record { there = there; long = q.1 })))

            below : {now : World} {l : Location} (i : ℕ) → nat_lt i len ≡ true → (a : AsLong os now may position ss f g l len) → i < length_of a.there.value
            below i less a = let le = ltb-true i len less in omega (arith, le, a.long)

            items : is_hooked here.facts place.of ≡ true → (i : ℕ) → nat_lt i len ≡ true → (l : Location) (now : State) → M l now.world →
                Comes N (LeftBy J) (carry (item_at l i) now)
            items h i less l now p =
                comes_carried N (LeftBy J) (item_at l i) now
                (sure_weaker (item_at l i) (λ m after. (after ≡ now.world) × Found os now.world may position (ss ++ to_element ∷ []) g m) N now.world
                (item_so p.1.there i (below i less p.1))
                (λ m after q. subst (λ w. N m w) (sym q.0) (p.0, q.1)))

            fills : is_hooked here.facts place.of ≡ true → (m : Location) (now : State) → N m now.world →
                Comes (λ u after. InScope after) (LeftBy J) (element_for here place borrows m now)
            fills h m now p = by borrows refl
              where
                by : (c : Bool) → borrows ≡ c → Comes (λ u after. InScope after) (LeftBy J) (element_for here place c m now)
                by true q = absurd (own q h)
                by false q =
                    comes_weaker (λ u after. Stage r (own_cell here place ∷ []) os first places p.0.later b.territory.blocks start after) (LeftBy J)
                    (λ u after. InScope after) (LeftBy J) (fill_from here place m now)
                    (fill_from_comes r os first places p.0.later b.territory.blocks start {ms = []} here place (LeftBy J) refl now p.0.stage bounds.0 bounds.1
                    (in_is place.number ips mine) off (read_found p.0.stage.runs.territory p.1) (found_elsewhere here.level place.number p.1 off))
                    (λ u after st. record { later = p.0.later; stage = st; distinct = p.0.distinct; came = p.0.came }) (λ way after q. q)

            reads : is_hooked here.facts place.of ≡ false → (i : ℕ) → nat_lt i len ≡ true → (l : Location) (now : State) → M l now.world →
                Comes V (LeftBy J) (element_at l i now)
            reads h i less l now p =
                comes_carried V (LeftBy J) (fetched_item l i) now
                (sure_weaker (fetched_item l i) (Fetched g now.world) V now.world (fetched_so p.1.there p.0.stage.runs.territory i (below i less p.1))
                (λ v after q. (subst J (sym q.same) p.0, record { blocks = q.blocks; has = subst (λ w. Has w Constant g v q.blocks) (sym q.same) q.has })))

            sets : is_hooked here.facts place.of ≡ false → (v : Value) (now : State) → V v now.world →
                Comes (λ u after. InScope after) (LeftBy J) (fill here place.number v now)
            sets h v now p = plain_fills (LeftBy J) v now p.0 h p.1.has
