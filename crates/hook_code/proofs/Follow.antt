-- The lines of a hook, one after another, do in word code what they do with the values.
use Rattle.std.proofs.Common.{◌≡◌, ◌≢◌, ◌⊎◌, inl, inr, ℕ, zero, suc, ◌+◌, ◌*◌, ◌^◌, ◌<◌, ◌≤◌, Bool, true, false, List, [], ◌∷◌, ◌++◌, Option, Some, None}
use Rattle.std.proofs.Common.{refl, sym, ap, subst, ◌∙◌, arith}
use Rattle.std.specs.Prelude.{◌-◌, nat_eq, option_map, ◌==◌, if◌then◌else◌}
use Rattle.std.proofs.lemmas.Bool.{cases_eq, eq-eqb, ne_eqb, cond-true, cond-false}
use Rattle.arc_base.specs.Event.{Event}
use Rattle.nim_types.specs.declared.types.TypeDef.{TypeDef}
use Rattle.nim_types.specs.declared.types.TheConstants.{LIST_BYTES, WORD_BYTES}
use Rattle.nim_meaning.specs.State.{World}
use Rattle.nim_meaning.specs.Deeds.{Done, Answers, Finishes, Fails, behind as later_by}
use Rattle.flat_code.specs.declared.line.Line.TheVariants as L
use Rattle.flat_code.specs.Scene.{Known, known_in, Did, Passes, Leaps, Enters, Turns, Calls, Returns, Temps}
use Rattle.flat_code.specs.Scene as scenes
use Rattle.flat_code.specs.Running.{Machine, settled, is_name}
use Rattle.flat_code.specs.Running as running
use Rattle.rv32_isa.specs.Machine.{Lives}
use Rattle.word_code.specs.declared.word.WordInstr.{WordInstr}
use Rattle.word_code.specs.declared.word.WordInstr.TheVariants as W
use Rattle.word_code.specs.declared.word.WordProc.{WordProc}
use Rattle.arc_base.specs.Behaviour.{no_objects}
use Rattle.arc_base.specs.Simulation.{Steps}
use Rattle.arc_base.proofs.ForCallers.{steps_on}
use Rattle.word_code.specs.Words.{WordState, from_label, Fresh, step_of}
use Rattle.word_code.proofs.ForCallers.{Within}
use Rattle.hook_lifting.specs.declared.lifted.Hook.{Hook}
use Rattle.hook_lifting.specs.declared.lifted.Hook.TheVariants.{Copies, Assigns, Sinks, Ends}
use Rattle.hook_lifting.specs.declared.lifted.LiftedLine.{LiftedLine}
use Rattle.hook_lifting.specs.declared.lifted.LiftedLine.TheVariants as O
use Rattle.hook_lifting.specs.Lifted.{has_hooks}
use Rattle.hook_lifting.specs.Lifting.{does_by, label_of, by_next, comes_to}
use Rattle.hook_lifting.specs.Weights.{priced, price_by, price, least_pace}
use Rattle.hook_code.specs.HookCode.{line_code, lines_code, plain_hook, bits, element_bytes, element_of, taken, part_hook, bytes_at}
use Rattle.hook_code.specs.Surroundings.{Hand, Surroundings}
use Rattle.hook_code.specs.Promises.{IsOver, Routines}
use Rattle.hook_code.proofs.Env.{Env, Covers, Fits, a_part, a_zero, a_test, a_turn, a_label, a_return, a_hook, a_base, a_load, a_count, a_number, an_element}
use Rattle.hook_code.proofs.Env.{a_member}
use Rattle.hook_code.proofs.Env.{a_take, a_give_back, a_trade, a_begin, a_push, a_pop, an_exchange, a_copy, a_shorten, a_forget, AllFit, more, led}
use Rattle.hook_code.proofs.Env.{handled}
use Rattle.hook_code.proofs.Known.{none_some, same_some}
use Rattle.hook_code.proofs.Lines.{Before, state, stops_behind, Reached, IsReturned}
use Rattle.hook_code.proofs.LineRuns.{Settles, zero_line, number_line, count_line, copy_line, label_line, test_line, turn_line, part_line, member_line}
use Rattle.hook_code.proofs.LineRuns.{element_line, load_line, exchange_line, shorten_line, trade_line, begin_line, push_line, pop_line, return_line}
use Rattle.hook_code.proofs.CallRuns.{MayDo, give_back_line, forget_line, take_line, hook_line, base_line}

-- each label stands once
abbrev pub Distinct : List LiftedLine → Type 0
Distinct [] = Unit {0}
Distinct (line ∷ k) = ((name : ℕ) → label_of line ≡ Some name → running.from_label label_of name k ≡ None) × Distinct k

abbrev pub Found_in : ℕ → List LiftedLine → List LiftedLine → Type 0
Found_in name k there = running.from_label label_of name k ≡ Some there

-- what is found behind a line is found from it on
pub found_behind : (line : LiftedLine) (k : List LiftedLine) → ((name : ℕ) → label_of line ≡ Some name → running.from_label label_of name k ≡ None)
    → (name : ℕ) (there : List LiftedLine) → Found_in name k there → Found_in name (line ∷ k) there
found_behind line k once name there found = by (label_of line) refl
  where
    by : (o : Option ℕ) → label_of line ≡ o → Found_in name (line ∷ k) there
    by None e = ap (λ o. if is_name name o then Some (line ∷ k) else running.from_label label_of name k) e ∙ found
    by (Some other) e = named (cases_eq other name)
      where
        named : (other ≡ name) ⊎ (other ≢ name) → Found_in name (line ∷ k) there
        named (inl same) = absurd (none_some (sym (once name (e ∙ ap (λ n. Some n) same)) ∙ found))
        named (inr away) =
            ap (λ o. if is_name name o then Some (line ∷ k) else running.from_label label_of name k) e
            ∙ (cond-false (nat_eq other name) (Some (line ∷ k)) (running.from_label label_of name k) (ne_eqb other name away) ∙ found)

module _ (table : List TypeDef) (z : Surroundings table) (live : Lives) (procs : List WordProc) (fresh : Fresh) (h : Hand) (own : ℕ) (c : Within)
    (began : z.Blocks)
    (joined : ℕ → Env) (first ty level : ℕ) (base_is : c.base ≡ own) (own_small : own < 2 ^ 32) (room_is : c.proc.room ≡ LIST_BYTES) (chain pace : ℕ)
    (steep : least_pace ≤ pace)
    (fits : own + LIST_BYTES + LIST_BYTES * chain ≤ z.limit) (routines : Routines table z live procs fresh) where
  abbrev known : Known
  known = known_in table

  abbrev May : Hook → ℕ → Type 0
  May hook of = MayDo table z live procs fresh h own c began joined first ty level base_is own_small room_is chain pace steep fits routines hook of

  abbrev B : Env → Temps → World → Type 0
  B e temps w = Before table z live procs fresh h own c began joined e temps w

  abbrev At_line : Type 0
  At_line = ℕ × WordState

  abbrev St : {e : Env} {temps : Temps} {w : World} → B e temps w → List WordInstr → At_line
  St b code = state table z live procs fresh h own c began joined b code

  abbrev R : ℕ → At_line → At_line → Type 0
  R n s t = Steps (step_of live procs fresh) n s [] n t

  abbrev FitsHere : Env → LiftedLine → Env → Type 0
  FitsHere e line f = Fits table ty joined May e line f

  abbrev AllHere : Env → List LiftedLine → Type 0
  AllHere e k = AllFit table ty joined May e k

  abbrev code_of : List LiftedLine → List WordInstr
  code_of k = lines_code table first ty k []

  -- a line takes no more lines than it weighs
  abbrev S : LiftedLine → Env → List WordInstr → Did → World → Temps → At_line → Type 0
  S line f k did w temps s = Settles table z live procs fresh h own c began joined first ty level base_is own_small f k (priced pace line) did w temps s

  -- ---- each line

  -- the pace is that of the hooks that are called
  hook_price : (n : ℕ) → 4 + pace * (1 + n - 1) ≡ 4 + pace * n
  hook_price n = let e : 1 + n - 1 ≡ n = omega arith in ap (λ i. 4 + pace * i) e

  module _ {temps : Temps} {w : World} (k : List WordInstr) where
    pub a_line : {e f : Env} {line : LiftedLine} → FitsHere e line f → (b : B e temps w)
        → S line f k (does_by known (record { world = w; level = level; temps = temps }) line) w temps (St b (line_code table first ty line k))
    a_line (a_part {to = to} {from = from} {i = i} {of = of} {o = owned} part is begun typed) b =
        part_line table z live procs fresh h own c began joined first ty level base_is own_small b k (priced pace (O.Plain (L.Part to from i))) (omega arith) to
        from i of owned part is begun typed
    a_line (a_zero {to = to} is) b = zero_line table z live procs fresh h own c began joined first ty level base_is own_small b k
        (priced pace (O.Plain (L.Zero to))) (omega arith) to is
    a_line (a_test {c = n} {l = l} {name = name} is is_last has has_last covers) b =
        test_line table z live procs fresh h own c began joined first ty level base_is own_small b k (priced pace (O.Plain (L.Beyond n l false name)))
        (omega arith) n l name has has_last covers
    a_line (a_turn {l = l} {name = name} is has has_last away small covers) b =
        turn_line table z live procs fresh h own c began joined first ty level base_is own_small b k (priced pace (O.Plain (L.CountTurn 4 l false name)))
        (omega arith) l name has has_last away small covers
    a_line (a_label {name = name} covers) b = label_line table z live procs fresh h own c began joined first ty level base_is own_small b k
        (priced pace (O.Plain (L.Label name))) (omega arith) name covers
    a_line (a_return {t = t} {o = owned} is begun) b = return_line table z live procs fresh h own c began joined first ty level base_is own_small b k
        (priced pace (O.Plain (L.Return None))) (omega arith) t owned is begun
    a_line (a_hook {hook = hook} {of = of} {to = to} {from = from} {o = owned} leads_to leads_from asked may) b =
        hook_line table z live procs fresh h own c began joined first ty level base_is own_small room_is chain pace steep fits routines b k
        (priced pace (O.Hook hook of to from)) (λ n. hook_price n) hook of to from owned leads_to leads_from asked may
    a_line (a_base {hook = hook} {base = base} {o = owned} at_to at_from asked distinct may) b =
        base_line table z live procs fresh h own c began joined first ty level base_is own_small room_is chain pace steep fits routines b k
        (priced pace (O.Hook hook base 0 1)) (λ n. hook_price n) hook base owned at_to at_from asked distinct may
    a_line (a_load {to = to} {at = j} {t = t} {o = owned} is there from handles) b =
        load_line table z live procs fresh h own c began joined first ty level base_is own_small b k (priced pace (O.Load to j)) (omega arith) to j t owned is
        there from handles
    a_line (a_count {to = to} {of = of} {t = t} {o = owned} is holds) b =
        count_line table z live procs fresh h own c began joined first ty level base_is own_small b k (priced pace (O.Count to of)) (omega arith) to of t
        owned is holds
    a_line (a_number {to = to} {n = n} is small) b =
        number_line table z live procs fresh h own c began joined first ty level base_is own_small b k (priced pace (O.Number to n)) (omega arith) to n is small
    a_line (an_element {e = e} {to = to} {of = of} {at = j} {el = el} {o = owned} part holds there from typed has begun) b =
        subst (λ o. S (O.Element to of j 4) (led e to owned el) k (does_by known (record { world = w; level = level; temps = temps }) (O.Element to of j 4)) w
        temps (St b (element_of to (of + 3) 4 (element_bytes table o) k))) (sym typed)
        (element_line table z live procs fresh h own c began joined first ty level base_is own_small b k (priced pace (O.Element to of j 4)) (omega arith) to of
        j el owned part holds there from typed has begun)
    a_line (a_member {e = e} {to = to} {at = j} {n = n} {el = el} {o = owned} part there typed few has begun) b =
        subst (λ o. S (O.Member to j 4 n) (led e to owned el) k (does_by known (record { world = w; level = level; temps = temps }) (O.Member to j 4 n)) w
        temps (St b (element_of to j 4 (element_bytes table o) k))) (sym typed)
        (member_line table z live procs fresh h own c began joined first ty level base_is own_small b k (priced pace (O.Member to j 4 n)) (omega arith) to j n
        el owned part there typed few has begun)
    a_line (a_take {e = e} {to = to} {at = j} {of = of} {t = t} {el = el} {o = owned} is holds there typed) b =
        subst (λ o. S (O.Take ty to j of) (handled e to true true ty) k
        (does_by known (record { world = w; level = level; temps = temps }) (O.Take ty to j of)) w temps (St b (taken to j of (element_bytes table o) k)))
        (sym typed)
        (take_line table z live procs fresh h own c began joined first ty level base_is own_small room_is chain pace steep fits routines b k
        (priced pace (O.Take ty to j of)) (λ n. omega arith) to j of t el owned is holds there typed)
    a_line (a_give_back {at = j} {of = of} {t = t} {other = other} holds there handles) b =
        give_back_line table z live procs fresh h own c began joined first ty level base_is own_small room_is chain pace steep fits routines b k
        (priced pace (O.GiveBack other j of)) (λ n. omega arith) j of t other holds there handles
    a_line (a_trade {to = to} {from = from} {t = t} there other handles) b =
        trade_line table z live procs fresh h own c began joined first ty level base_is own_small b k (priced pace (O.Trade to from)) (omega arith) to from t
        there other handles
    a_line (a_begin {t = t} begun handles) b =
        begin_line table z live procs fresh h own c began joined first ty level base_is own_small b k (priced pace (O.Begin t 2)) (omega arith) t begun handles
    a_line (a_push {of = of} {t = t} {full = full} begun holds handles) b =
        push_line table z live procs fresh h own c began joined first ty level base_is own_small b k (priced pace (O.Push 2 of)) (omega arith) of t full begun
        holds handles
    a_line (a_pop {to = to} {t = t} is begun handles) b =
        pop_line table z live procs fresh h own c began joined first ty level base_is own_small b k (priced pace (O.Pop to 2)) (omega arith) to t is
        begun handles
    a_line (an_exchange {to = to} {at = j} {of = of} {t = t} {full = full} is there holds away handles) b =
        exchange_line table z live procs fresh h own c began joined first ty level base_is own_small b k (priced pace (O.Exchange to j of)) (omega arith) to j
        of t full is there holds away handles
    a_line (a_copy {to = to} {of = of} is of_is has) b =
        copy_line table z live procs fresh h own c began joined first ty level base_is own_small b k (priced pace (O.Copy to of)) (omega arith) to of is has
    a_line (a_shorten {at = j} {of = of} {count = count} {t = t} {el = el} holds there is has handles seq) b =
        shorten_line table z live procs fresh h own c began joined first ty level base_is own_small b k (priced pace (O.Shorten j of count)) (omega arith) j of
        count t el holds there has handles seq
    a_line (a_forget {of = of} {count = count} {t = t} {el = el} holds is has seq) b =
        forget_line table z live procs fresh h own c began joined first ty level base_is own_small room_is chain pace steep fits routines b k
        (priced pace (O.Forget of count)) of count t el holds has seq

  -- ---- labels

  abbrev IfWord : Bool → ℕ → ℕ → List WordInstr → List WordInstr
  IfWord word to from k = bits word 0 to from k

  -- nor has that of a hook
  pub no_label_in : (hook : Hook) (of to from name : ℕ) (k : List WordInstr)
      → from_label name (line_code table first ty (O.Hook hook of to from) k) ≡ from_label name k
  no_label_in hook of to from name k = by (has_hooks table of) refl
    where
      plain : (one : Hook) (word : Bool) (n : ℕ) → (n == WORD_BYTES) ≡ word → from_label name (plain_hook one n to from k) ≡ from_label name k
      plain Ends word n is = refl
      plain Copies true n is = ap (λ y. from_label name (bits y n to from k)) is
      plain Copies false n is = ap (λ y. from_label name (bits y n to from k)) is
      plain Assigns true n is = ap (λ y. from_label name (bits y n to from k)) is
      plain Assigns false n is = ap (λ y. from_label name (bits y n to from k)) is
      plain Sinks true n is = ap (λ y. from_label name (bits y n to from k)) is
      plain Sinks false n is = ap (λ y. from_label name (bits y n to from k)) is

      by : (hooks : Bool) → has_hooks table of ≡ hooks → from_label name (line_code table first ty (O.Hook hook of to from) k) ≡ from_label name k
      by true is = ap (λ y. from_label name (part_hook table first ty y hook of to from k)) is
      by false is = ap (λ y. from_label name (part_hook table first ty y hook of to from k)) is
          ∙ plain hook (bytes_at table of == WORD_BYTES) (bytes_at table of) refl

  -- the code of other lines has none
  no_label : {e f : Env} {line : LiftedLine} → FitsHere e line f → label_of line ≡ None → (name : ℕ) (k : List WordInstr)
      → from_label name (line_code table first ty line k) ≡ from_label name k
  no_label (a_part part is begun typed) e name k = refl
  no_label (a_zero is) e name k = refl
  no_label (a_test is is_last has has_last covers) e name k = refl
  no_label (a_turn is has has_last away small covers) e name k = refl
  no_label (a_label covers) e name k = absurd (none_some (sym e))
  no_label (a_return is begun) e name k = refl
  no_label (a_hook {hook = hook} {of = of} {to = to} {from = from} leads_to leads_from asked may) e name k = no_label_in hook of to from name k
  no_label (a_base {hook = hook} {base = base} at_to at_from asked distinct may) e name k = no_label_in hook base 0 1 name k
  no_label (a_load is there from handles) e name k = refl
  no_label (a_count is holds) e name k = refl
  no_label (a_number is small) e name k = refl
  no_label (an_element part holds there from typed has begun) e name k = refl
  no_label (a_member part there typed few has begun) e name k = refl
  no_label (a_take is holds there typed) e name k = refl
  no_label (a_give_back holds there handles) e name k = refl
  no_label (a_trade there other handles) e name k = refl
  no_label (a_begin begun handles) e name k = refl
  no_label (a_push begun holds handles) e name k = refl
  no_label (a_pop is begun handles) e name k = refl
  no_label (an_exchange is there holds away handles) e name k = refl
  no_label (a_copy is of_is has) e name k = refl
  no_label (a_shorten holds there is has handles seq) e name k = refl
  no_label (a_forget holds is has seq) e name k = refl

  abbrev covers_same : (e : Env) → Covers e e
  covers_same e = record { at = λ j t is. is; has = λ t y is. is; counts = λ t is. is; small = λ is. is; begun = refl }

  -- lines from a label on
  pub record IsFound (name : ℕ) (k there : List LiftedLine) : Type 0 where
    pub fitting : AllHere (joined name) there
    pub distinct : Distinct there
    pub word : from_label name (code_of k) ≡ Some (code_of there)
    pub on : (other : ℕ) (t : List LiftedLine) → Found_in other there t → Found_in other k t

  pub record IsLabel (line : LiftedLine) (f : Env) (name : ℕ) : Type 0 where
    pub is : line ≡ O.Plain (L.Label name)
    pub env : f ≡ joined name

  label_fit : {e f : Env} {line : LiftedLine} (other : ℕ) → FitsHere e line f → label_of line ≡ Some other → IsLabel line f other
  label_fit other (a_label {name = name} covers) e =
      let same : name ≡ other = same_some name other e in record { is = ap (λ n. O.Plain (L.Label n)) same; env = ap joined same }
  label_fit other (a_part part is begun typed) e = absurd (none_some e)
  label_fit other (a_zero is) e = absurd (none_some e)
  label_fit other (a_test is is_last has has_last covers) e = absurd (none_some e)
  label_fit other (a_turn is has has_last away small covers) e = absurd (none_some e)
  label_fit other (a_return is begun) e = absurd (none_some e)
  label_fit other (a_hook leads_to leads_from asked may) e = absurd (none_some e)
  label_fit other (a_base at_to at_from asked distinct may) e = absurd (none_some e)
  label_fit other (a_load is there from handles) e = absurd (none_some e)
  label_fit other (a_count is holds) e = absurd (none_some e)
  label_fit other (a_number is small) e = absurd (none_some e)
  label_fit other (an_element part holds there from typed has begun) e = absurd (none_some e)
  label_fit other (a_member part there typed few has begun) e = absurd (none_some e)
  label_fit other (a_take is holds there typed) e = absurd (none_some e)
  label_fit other (a_give_back holds there handles) e = absurd (none_some e)
  label_fit other (a_trade there to handles) e = absurd (none_some e)
  label_fit other (a_begin begun handles) e = absurd (none_some e)
  label_fit other (a_push begun holds handles) e = absurd (none_some e)
  label_fit other (a_pop is begun handles) e = absurd (none_some e)
  label_fit other (an_exchange is there holds away handles) e = absurd (none_some e)
  label_fit other (a_copy is of_is has) e = absurd (none_some e)
  label_fit other (a_shorten holds there is has handles seq) e = absurd (none_some e)
  label_fit other (a_forget holds is has seq) e = absurd (none_some e)

  -- a label that isn't looked for, and one that is
  label_past : (other name : ℕ) (k : List WordInstr) → other ≢ name → from_label name (W.Label other ∷ k) ≡ from_label name k
  label_past other name k away = cond-false (other == name) (Some (W.Label other ∷ k)) (from_label name k) (ne_eqb other name away)

  label_here : (name : ℕ) (k : List WordInstr) → from_label name (W.Label name ∷ k) ≡ Some (W.Label name ∷ k)
  label_here name k = cond-true (name == name) (Some (W.Label name ∷ k)) (from_label name k) (eq-eqb name name refl)

  pub found_there : {e : Env} (k : List LiftedLine) → AllHere e k → Distinct k → (name : ℕ) (there : List LiftedLine) → Found_in name k there
      → IsFound name k there
  found_there [] all distinct name there found = absurd (none_some found)
  found_there (line ∷ k) (more {f = f} fit all) distinct name there found =
      by (λ later. found_there k all distinct.1 name there later) (label_of line) refl
    where
      Later : Type 0
      Later = Found_in name k there → IsFound name k there

      -- it is in what comes behind
      go_on : IsFound name k there → ((l : List WordInstr) → from_label name (line_code table first ty line l) ≡ from_label name l)
          → IsFound name (line ∷ k) there
      go_on x past = record {
        fitting = x.fitting;
        distinct = x.distinct;
        word = past (code_of k) ∙ x.word;
        on = λ other t is. found_behind line k distinct.0 other t (x.on other t is);
      }

      found_by : (o : Option ℕ) → label_of line ≡ o → (if is_name name o then Some (line ∷ k) else running.from_label label_of name k) ≡ Some there
      found_by o e = sym (ap (λ o. if is_name name o then Some (line ∷ k) else running.from_label label_of name k) e) ∙ found

      by : Later → (o : Option ℕ) → label_of line ≡ o → IsFound name (line ∷ k) there
      by later None e = go_on (later (found_by None e)) (λ l. no_label fit e name l)
      by later (Some other) e = labelled (label_fit other fit e) (cases_eq other name)
        where
          labelled : IsLabel line f other → (other ≡ name) ⊎ (other ≢ name) → IsFound name (line ∷ k) there
          labelled x (inr away) =
              go_on (later (sym (cond-false (nat_eq other name) (Some (line ∷ k)) (running.from_label label_of name k) (ne_eqb other name away))
              ∙ found_by (Some other) e))
              (λ l. ap (λ m. from_label name (line_code table first ty m l)) x.is ∙ label_past other name l away)
          labelled x (inl same) =
              let is : line ≡ O.Plain (L.Label name) = x.is ∙ ap (λ n. O.Plain (L.Label n)) same in
              let there_is : line ∷ k ≡ there = same_some (line ∷ k) there
              (sym (cond-true (nat_eq other name) (Some (line ∷ k)) (running.from_label label_of name k) (eq-eqb other name same)) ∙ found_by (Some other) e) in
              let fitting : AllHere (joined name) (line ∷ k) = subst (λ m. AllHere (joined name) (m ∷ k)) (sym is)
              (more {f = joined name} (a_label (covers_same (joined name))) (subst (λ g. AllHere g k) (x.env ∙ ap joined same) all)) in
              record {
                fitting = subst (λ t. AllHere (joined name) t) there_is fitting;
                distinct = subst Distinct there_is distinct;
                word = subst (λ t. from_label name (code_of (line ∷ k)) ≡ Some (code_of t)) there_is
                    (subst (λ m. from_label name (line_code table first ty m (code_of k)) ≡ Some (line_code table first ty m (code_of k))) (sym is)
                    (label_here name (code_of k)));
                on = λ o t found_in. subst (λ s. Found_in o s t) (sym there_is) found_in;
              }

  -- ---- one line after another

  -- what a hook comes to, in so many lines at most, with the return
  abbrev pub Ends_in : Option (Done (Unit {0})) → At_line → (most : ℕ) → Type 0
  Ends_in None s most = Unit {0}
  Ends_in (Some (Answers es n u w)) s most = (es ≡ []) × IsReturned table z live procs fresh h own c began joined w s most
  Ends_in (Some (Finishes es n status w)) s most = (status ≡ 1) × IsOver table z live procs fresh s es status most
  Ends_in (Some (Fails es n w)) s most = Unit {0}

  pub ends_later : (lines limit n most : ℕ) → lines ≤ limit → (s t : At_line) → R lines s t → (es : List Event) → es ≡ [] → (o : Option (Done (Unit {0})))
      → Ends_in o t most → Ends_in (option_map (later_by es n) o) s (limit + most)
  ends_later lines limit n most few s t runs es empty None x = tt
  ends_later lines limit n most few s t runs es empty (Some (Answers fs m u w)) x = (
    ap (λ gs. gs ++ fs) empty ∙ x.0,
    record {
      done = x.1.done;
      memory = x.1.memory;
      vars = x.1.vars;
      given = x.1.given;
      awaits = x.1.awaits;
      rest = x.1.rest;
      word = x.1.word;
      zero = x.1.zero;
      blocks = x.1.blocks;
      ahead = x.1.ahead;
      here = x.1.here;
      lines = lines + x.1.lines;
      few = let l = x.1.few in omega (arith, few, l);
      runs = steps_on (step_of live procs fresh) lines x.1.lines lines x.1.lines s t _ [] [] runs x.1.runs;
    },
  )
  ends_later lines limit n most few s t runs es empty (Some (Finishes fs m status w)) x = (
    x.0,
    subst (λ gs. IsOver table z live procs fresh s (gs ++ fs) status (limit + most)) (sym empty) (record {
      lines = lines + x.1.lines;
      few = let l = x.1.few in omega (arith, few, l);
      stops = stops_behind (step_of live procs fresh) lines lines x.1.lines status s t [] fs no_objects runs x.1.stops;
    }),
  )
  ends_later lines limit n most few s t runs es empty (Some (Fails fs m w)) x = tt

  module _ (whole : List LiftedLine) (start_env : Env) (all_fit : AllHere start_env whole)
      (distinct : Distinct whole)
      (labels : (name : ℕ) (there : List WordInstr) → from_label name (code_of whole) ≡ Some there → from_label name c.proc.lines ≡ Some there) where
    abbrev M : Type 0
    M = Machine LiftedLine

    abbrev pub at : List LiftedLine → Temps → World → M
    at k temps world = record { now = record { whole = whole; rest = k; level = level; left = 0; temps = temps }; waiting = []; world = world }

    -- what is found from here on is found from the first line on
    abbrev pub Ahead : List LiftedLine → Type 0
    Ahead k = (name : ℕ) (there : List LiftedLine) → Found_in name k there → Found_in name whole there

    pub follows : (count : ℕ) {e : Env} (k : List LiftedLine) {temps : Temps} {w : World} → AllHere e k → Distinct k → Ahead k → (b : B e temps w)
        → Ends_in (comes_to known count (at k temps w)) (St b (code_of k)) (price known pace count (at k temps w))
    follows zero k all apart ahead b = tt
    follows (suc n) [] all apart ahead b = tt
    follows (suc n) (line ∷ k) {temps} {w} (more {f = f} fit all) apart ahead b =
        by (λ e2 l temps2 w2 all2 apart2 ahead2 b2. follows n l all2 apart2 ahead2 b2) (does_by known (record { world = w; level = level; temps = temps }) line)
        (a_line (code_of k) fit b)
      where
        Next_lines : Type 0
        Next_lines = (e2 : Env) (l : List LiftedLine) (temps2 : Temps) (w2 : World) → AllHere e2 l → Distinct l → Ahead l → (b2 : B e2 temps2 w2)
            → Ends_in (comes_to known n (at l temps2 w2)) (St b2 (code_of l)) (price known pace n (at l temps2 w2))

        s : At_line
        s = St b (code_of (line ∷ k))

        m : M
        m = at (line ∷ k) temps w

        ahead_next : Ahead k
        ahead_next name there found = ahead name there (found_behind line k apart.0 name there found)

        -- at a label
        leaps : Next_lines → (name work : ℕ) (now : Temps) (there : List LiftedLine) → Found_in name whole there
            → ((l : List WordInstr) → from_label name c.proc.lines ≡ Some l
            → Reached table z live procs fresh h own c began joined (joined name) now w l s (priced pace line work))
            → Ends_in (option_map (later_by [] work) (comes_to known n (at there now w))) s (priced pace line work + price known pace n (at there now w))
        leaps next name work now there found led =
            let x = found_there whole all_fit distinct name there found in
            let r = led (code_of there) (labels name (code_of there) x.word) in
            ends_later r.lines (priced pace line work) work (price known pace n (at there now w)) r.few s (St r.before (code_of there)) r.runs [] refl
            (comes_to known n (at there now w))
            (next (joined name) there now w x.fitting x.distinct x.on r.before)

        jumps : Next_lines → (name work : ℕ) (now : Temps) (o : Option (List LiftedLine))
            → ((there : List LiftedLine) → o ≡ Some there → Found_in name whole there)
            → ((l : List WordInstr) → from_label name c.proc.lines ≡ Some l
            → Reached table z live procs fresh h own c began joined (joined name) now w l s (priced pace line work))
            → Ends_in (by_next m (running.jumped m now work o) (comes_to known n)) s
            (price_by pace (line ∷ k) (running.jumped m now work o) (price known pace n))
        jumps next name work now None found led = tt
        jumps next name work now (Some there) found led = leaps next name work now there (found there refl) led

        by : Next_lines → (did : Did) → S line f (code_of k) did w temps s
            → Ends_in (by_next m (settled label_of (does_by known) [] m k did) (comes_to known n)) s
            (price_by pace (line ∷ k) (settled label_of (does_by known) [] m k did) (price known pace n))
        by next (Passes (Answers es work now w1)) o =
            ends_later o.1.lines (priced pace line work) work (price known pace n (at k now w1)) o.1.few s (St o.1.before (code_of k)) o.1.runs es o.0
            (comes_to known n (at k now w1))
            (next f k now w1 all apart.1 ahead_next o.1.before)
        by next (Passes (Finishes es work zero w1)) o = absurd (let e = o.0 in omega (arith, e))
        by next (Passes (Finishes es work (suc status) w1)) o = o
        by next (Passes (Fails es work w1)) o = tt
        by next (Leaps name work) o = jumps next name work temps (running.from_label label_of name k) (λ there found. ahead_next name there found) o
        by next (Turns now name) o = jumps next name 1 now (running.from_label label_of name whole) (λ there found. found) o
        by next (Returns v work) o = (refl, o)
        by next Enters o = absurd o
        by next (Calls to proc slots work) o = absurd o
        by next scenes.Fails o = tt
