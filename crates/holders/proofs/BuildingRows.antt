-- Objects that are built: a blank one whose fields are set.
use Rattle.std.proofs.Common.{◌≡◌, refl, sym, ap, subst, ◌∙◌, arith, ℕ, zero, suc, ◌≤◌, Bool, true, false, inl, inr, ◌⊎◌, List, [], ◌∷◌, ◌++◌, Option, Some}
use Rattle.std.proofs.Common.{None, ◌+◌}
use Rattle.std.specs.Prelude.{◌&&◌, not}
use Rattle.std.proofs.lemmas.Bool.{false≢true, and_parts}
use Rattle.nim_types.specs.Types.{Ty, Tys, Field, enum, exception, Fact, members, fields, base, below, Facts, fact_of}
use Rattle.nim_types.specs.Forms.{Form, Forms, parts, types_of, HasForm, AreForms, none_of, more_of}
use Rattle.nim_types.specs.Forms.{of_int, of_bool, of_char, of_text, of_sequence, of_any_sequence, of_array, of_tuple, of_parameter, of_enum}
use Rattle.nim_types.specs.Forms.{of_object, of_distinct, of_ref, of_exception}
use Rattle.nim_types.proofs.ForCallers.{the_form}
use Rattle.nim_program.specs.declared.expr.Node.{Node}
use Rattle.nim_program.specs.declared.operation.Use.{Use}
use Rattle.nim_program.specs.declared.operation.Use.TheVariants.{Held}
use Rattle.nim_program.specs.Program.{Building, Apply, Args, NoArg, ByValue, ByPath, type_of, types_in}
use Rattle.nim_program.specs.Kinds as kind
use Rattle.nim_program.specs.Kinds.{TypeKind, kind_of, declared_kind, nth_type, is_of}
use Rattle.nim_program.specs.Fitting.{built, is_built, are_distinct, are_fields, building_fits, is_in}
use Rattle.nim_program.specs.Typed.{are_placed}
use Rattle.nim_program.specs.Scopes as scopes
use Rattle.nim_meaning.specs.Values.{Value, Parts, Values, with_nth, Operand, values_in, blank, blanks, nth, Nil, More}
use Rattle.nim_meaning.specs.Table.{acts, with_fields}
use Rattle.nim_meaning.specs.Marks.{Member, Distinct}
use Rattle.nim_meaning.specs.State.{World}
use Rattle.nim_meaning.specs.Here.{Here, form_for}
use Rattle.nim_meaning.specs.Waiting.{waiting_all}
use Rattle.holders.specs.Owned.{Full, Has, HasAll, some_parts, PartForm, first_part, next_part, HasBlocksAlone}
use Rattle.holders.specs.Owned.{HasNone, HasEach, a_number, no_text, a_text, no_sequence, a_sequence, a_row, of_wrapped, none_more, one_more, no_parts, a_part}
use Rattle.holders.specs.Sure.{Sure}
use Rattle.holders.specs.Becoming.{taken_in, times}
use Rattle.holders.specs.Territory.{Owner, ClearOf}
use Rattle.holders.specs.Running.{Region}
use Rattle.holders.specs.Staging.{Holding, StageWith}
use Rattle.holders.proofs.Owning.{in_first, in_second, plain_anywhere, has_none}
use Rattle.holders.proofs.Copying.{either_block}
use Rattle.holders.proofs.Outward.{all_split, middle_distinct}
use Rattle.holders.proofs.ElementLists.{blank_has}
use Rattle.holders.specs.Asked.{Limits, IfSimple, AllWrite, FactsOfTheirSort}
use Rattle.holders.specs.Evaluating.{operand_nodes, at_nodes}
use Rattle.holders.proofs.PartsInTurn.{in_is, operands_in}
use Rattle.holders.specs.Claimed.{ValueSo, ReadySo}
use Rattle.holders.proofs.OperandKinds.{AllRegular}
use Rattle.holders.proofs.FormKinds.{same_type}
use Rattle.holders.proofs.Table.{OutOf, out_either}
use Rattle.holders.proofs.Applying.{node_off, row_valued}
use Rattle.holders.proofs.WholeOperations.{apply_waits}
use Rattle.holders.proofs.WaitingTaken.{Taken, none_taken, bare_taken, held_taken, lent_taken, place_taken}
use Rattle.holders.proofs.TakenRows.{not_lent, taken_together, not_bare}
use Rattle.holders.proofs.TakenOperations.{taken_so}
use Rattle.holders.proofs.Staging.{out_as}
use Rattle.holders.proofs.Ledger.{times_both, times_middle, both_later}
use Rattle.holders.specs.Holders.{held_by, held_in}
use Rattle.nim_meaning.specs.Kept.{one_if_same}
use Rattle.holders.proofs.PathLemmas.{nth_without}

-- the form of a field, by its type
field_form : (facts : Facts) {ts : Tys} {fs : Forms} → AreForms true facts ts fs → (i : ℕ) (o : Option Ty) → is_of o (nth_type ts i) ≡ true →
    PartForm fs i (form_for facts o)
field_form facts none_of i None e = absurd (false≢true e)
field_form facts none_of i (Some t) e = absurd (false≢true e)
field_form facts (more_of h rest) zero None e = absurd (false≢true e)
field_form facts (more_of {t = t} {f = f} {fs = fs} h rest) zero (Some u) e =
    subst (λ g. PartForm (Forms.forms f fs) 0 g) (sym (ap (form_for facts) (same_type {a = Some u} {b = Some t} e) ∙ the_form h)) first_part
field_form facts (more_of h rest) (suc i) o e = next_part (field_form facts rest i o e)

-- parts of which some are set: their blocks are those of the old ones and of the values
record Set (world : World) (fs : Forms) (all : Values) (old given : List ℕ) : Type 0 where
  blocks : List ℕ
  has : HasAll world Full fs 0 all blocks
  distinct : Distinct blocks
  of : (k : ℕ) → Member k blocks → Member k old ⊎ Member k given
  sum : (k : ℕ) → times k blocks ≡ times k old + times k given

record Object (world : World) (fs : Forms) (v : Value) (old given : List ℕ) : Type 0 where
  all : Values
  same : v ≡ Parts all
  set : Set world fs all old given

-- ---- what has no handles has no blocks

held_at_part : (k : ℕ) (all : Values) (i : ℕ) → held_in k all ≡ 0 → held_by k (nth all i) ≡ 0
held_at_part k Nil i h = refl
held_at_part k (More v all) zero h = omega (arith, h)
held_at_part k (More v all) (suc i) h = held_at_part k all i (omega (arith, h))

one_not_none : (k : ℕ) → one_if_same k k ≡ 0 → ⊥
one_not_none zero h = omega (arith, h)
one_not_none (suc k) h = one_not_none k (omega (arith, both_later k k, h))

mutual
  none_has : {world : World} {f : Form} {v : Value} {bs : List ℕ} → Has world Full f v bs → HasNone v → (j : ℕ) → times j bs ≡ 0
  none_has a_number h j = refl
  none_has no_text h j = refl
  none_has (a_text {k = k} same b) h j = absurd (one_not_none k (h k))
  none_has no_sequence h j = refl
  none_has (a_sequence {k = k} b each) h j = absurd (one_not_none k (h k))
  none_has (a_row same each) h j = none_each each (λ i k. held_at_part k _ i (h k)) j
  none_has (some_parts inside) h j = none_all inside (λ i k. held_at_part k _ i (h k)) j
  none_has (of_wrapped rest) h j = none_has rest h j

  none_each : {world : World} {f : Form} {n i : ℕ} {all : Values} {bs : List ℕ} → HasEach world Full f n i all bs → ((m : ℕ) → HasNone (nth all m)) →
      (j : ℕ) → times j bs ≡ 0
  none_each none_more h j = refl
  none_each (one_more {i = i} {bs = bs} {cs = cs} le first more) h j = omega (arith, times_both j bs cs, none_has first (h i) j, none_each more h j)

  none_all : {world : World} {fs : Forms} {i : ℕ} {all : Values} {bs : List ℕ} → HasAll world Full fs i all bs → ((m : ℕ) → HasNone (nth all m)) →
      (j : ℕ) → times j bs ≡ 0
  none_all (no_parts e) h j = refl
  none_all (a_part {i = i} {bs = bs} {cs = cs} le first more) h j = omega (arith, times_both j bs cs, none_has first (h i) j, none_all more h j)

-- one part, which had no blocks
set_one : {world : World} {fs : Forms} {all : Values} {old : List ℕ} {f : Form} {i : ℕ} {v : Value} {mine : List ℕ} → HasAll world Full fs 0 all old →
    Distinct old → PartForm fs i f → Has world Full f v mine → Distinct mine → ((k : ℕ) → Member k old → Member k mine → ⊥) →
    HasNone (nth all i) → Set world fs (with_nth all i v) old mine
set_one {world} {old = old} {i = i} {v = v} {mine = mine} has d p h dm apart none =
    let s = all_split has p i (omega arith) in
    let into : (k : ℕ) → Member k (s.before ++ (s.mine ++ s.behind)) → Member k old = λ k m. subst (λ bs. Member k bs) (sym s.is) m in
    record {
      blocks = s.before ++ (mine ++ s.behind);
      has = s.put world v mine (λ k x m is. is) (λ k x m is. is) h;
      distinct = middle_distinct s.before s.mine s.behind mine (subst (λ bs. Distinct bs) s.is d) dm
          (λ k m n. apart k (into k (in_first k s.before (s.mine ++ s.behind) n)) m)
          (λ k m n. apart k (into k (in_second k s.before (s.mine ++ s.behind) (in_second k s.mine s.behind n))) m);
      of = λ k m. either_block k s.before (mine ++ s.behind) (Member k old ⊎ Member k mine) m
          (λ q. inl (into k (in_first k s.before (s.mine ++ s.behind) q)))
          (λ q. either_block k mine s.behind (Member k old ⊎ Member k mine) q (λ z. inr z)
          (λ z. inl (into k (in_second k s.before (s.mine ++ s.behind) (in_second k s.mine s.behind z)))));
      sum = λ k. omega (
        arith,
        none_has s.has none k,
        times_middle k s.before s.mine s.behind s.is,
        times_middle k s.before mine s.behind refl,
      );
    }

still_apart : {world : World} {fs : Forms} {all : Values} {old mine : List ℕ} (given : List ℕ) (first : Set world fs all old mine) →
    ((k : ℕ) → Member k old → Member k (mine ++ given) → ⊥) → ((k : ℕ) → Member k mine → Member k given → ⊥) → (k : ℕ) →
    Member k first.blocks → Member k given → ⊥
still_apart {old = old} {mine = mine} given first apart other k m n = by (first.of k m)
  where
    by : Member k old ⊎ Member k mine → ⊥
    by (inl q) = apart k q (in_second k mine given n)
    by (inr q) = other k q n

then_more : {world : World} {fs : Forms} {all : Values} {old mine given : List ℕ} {v : Value} (first : Set world fs all old mine) →
    Object world fs v first.blocks given → Object world fs v old (mine ++ given)
then_more {old = old} {mine = mine} {given = given} first next =
    record {
      all = next.all;
      same = next.same;
      set = record {
        blocks = next.set.blocks;
        has = next.set.has;
        distinct = next.set.distinct;
        of = λ k m. by k (next.set.of k m);
        sum = λ k. omega (arith, next.set.sum k, first.sum k, times_both k mine given);
      };
    }
  where
    before : (k : ℕ) → Member k old ⊎ Member k mine → Member k old ⊎ Member k (mine ++ given)
    before k (inl q) = inl q
    before k (inr q) = inr (in_first k mine given q)

    by : (k : ℕ) → Member k first.blocks ⊎ Member k given → Member k old ⊎ Member k (mine ++ given)
    by k (inl q) = before k (first.of k q)
    by k (inr q) = inr (in_second k mine given q)

-- the others have none still
others_none : (field : ℕ) (places : List ℕ) (all : Values) (v : Value) → not (is_in field places) && are_distinct places ≡ true →
    ((p : ℕ) → Member p (field ∷ places) → HasNone (nth all p)) → (p : ℕ) → Member p places → HasNone (nth (with_nth all field v) p)
others_none field places all v once none p m =
    subst (λ x. HasNone x) (sym (nth_without all field p v (λ e. new (subst (λ n. Member n places) e m)))) (none p (inr m))
  where
    new : Member field places → ⊥
    new m = false≢true (sym (ap not (in_is field places m)) ∙ (and_parts (not (is_in field places)) (are_distinct places) once).0)

module _ {here : Here} {limits : Limits} {root : (global : Bool) → ℕ → ℕ} {uses : (position : ℕ) → Use} {ms os : List Owner} {taken_blocks : List ℕ}
    {world : World} (held : (j : ℕ) → uses j ≡ Held) (own : Bool) {ts : Tys} {fs : Forms} (forms_of : AreForms true here.facts ts fs) where
  fields_set : (places : List ℕ) (args : Args) {i : ℕ} {xs : List Operand} {given : List ℕ} (all : Values) (old : List ℕ) → HasAll world Full fs 0 all old →
      Distinct old → ((k : ℕ) → Member k old → Member k given → ⊥) → are_distinct places ≡ true → ((p : ℕ) → Member p places → HasNone (nth all p)) →
      Taken here limits root uses ms os taken_blocks world args i xs given →
      are_fields (kind.object own ts) places (types_in args) ≡ true → are_placed 0 args ≡ true →
      Object world fs (with_fields (Parts all) places (values_in xs)) old given
  fields_set [] args all old h d apart once none (place_taken f e more) typed placed = absurd (false≢true placed)
  fields_set [] args all old h d apart once none (lent_taken purpose hooks cell a more) typed placed = absurd (false≢true typed)
  fields_set [] args all old h d apart once none (bare_taken which b more) typed placed = absurd (false≢true typed)
  fields_set [] args all old h d apart once none (held_taken purpose u more other) typed placed = absurd (false≢true typed)
  fields_set [] args all old h d apart once none none_taken typed placed =
      record { all = all; same = refl; set = record { blocks = old; has = h; distinct = d; of = λ k m. inl m; sum = λ k. omega arith } }
  fields_set (field ∷ places) args all old h d apart once none none_taken typed placed = absurd (false≢true typed)
  fields_set (field ∷ places) args all old h d apart once none (place_taken f e more) typed placed = absurd (false≢true placed)
  fields_set (field ∷ places) args all old h d apart once none (lent_taken purpose hooks cell a more) typed placed = not_lent held purpose
  fields_set (field ∷ places) args all old h d apart once none (bare_taken (inr other) b more) typed placed = not_bare held other
  fields_set (field ∷ places) (ByValue value rest) all old h d apart once none (bare_taken {v = v} {given = given} (inl unhooked) b more) typed placed =
      let q = and_parts (is_of (type_of value) (nth_type ts field)) (are_fields (kind.object own ts) places (types_in rest)) typed in
      let one : Set world fs (with_nth all field v) old [] =
      set_one h d (field_form here.facts forms_of field (type_of value) q.0) (plain_anywhere world Full unhooked (b world)) tt (λ k m n. elim n [ ])
      (none field (inl refl)) in
      then_more {mine = []} {given = given} one
      (fields_set places rest (with_nth all field v) one.blocks one.has one.distinct (still_apart given one apart (λ k m n. elim m [ ]))
      (and_parts (not (is_in field places)) (are_distinct places) once).1 (others_none field places all v once none) more q.1 placed)
  fields_set (field ∷ places) (ByValue value rest) all old h d apart once none (held_taken {v = v} {given = given} purpose u more other) typed placed =
      let q = and_parts (is_of (type_of value) (nth_type ts field)) (are_fields (kind.object own ts) places (types_in rest)) typed in
      let one : Set world fs (with_nth all field v) old u.given =
      set_one h d (field_form here.facts forms_of field (type_of value) q.0) u.has u.distinct
      (λ k m n. apart k m (in_first k u.given given n)) (none field (inl refl)) in
      then_more {mine = u.given} {given = given} one
      (fields_set places rest (with_nth all field v) one.blocks one.has one.distinct (still_apart given one apart (λ k m n. other k m n))
      (and_parts (not (is_in field places)) (are_distinct places) once).1 (others_none field places all v once none) more q.1 placed)

clear_fewer : (bs cs : List ℕ) (os : List Owner) → ((k : ℕ) → Member k bs → Member k cs) → ClearOf cs os → ClearOf bs os
clear_fewer bs cs [] fewer c = tt
clear_fewer bs cs (o ∷ os) fewer c = (λ k e m. c.0 k e (fewer k m), clear_fewer bs cs os fewer c.1)

parts_inside : {world : World} {fs : Forms} {all : Values} {bs : List ℕ} → Has world Full (parts fs) (Parts all) bs → HasAll world Full fs 0 all bs
parts_inside (some_parts h) = h

no_object : {A : Type 0} (facts : Facts) (x : Option Fact) (b : Bool) → ((all : List Field) (own : Bool) → x ≡ Some (fields all own) → ⊥) →
    is_built (built facts (declared_kind x)) && b ≡ true → A
no_object facts None b k e = absurd (false≢true e)
no_object facts (Some (members names)) b k e = absurd (false≢true e)
no_object facts (Some (fields all own)) b k e = absurd (k all own refl)
no_object facts (Some (base t)) b k e = absurd (false≢true e)
no_object facts (Some (below p)) b k e = absurd (false≢true e)

-- ---- rows

module _ (here : Here) (limits : Limits) (root : (global : Bool) → ℕ → ℕ) (r : Region) (ms os : List Owner) (first places : ℕ) (nodes old : List ℕ)
    (start now : World) {given : List ℕ} (s : StageWith (λ k. times k given) r ms os first places nodes old start now) {args : Args} {xs : List Operand}
    (taken : Taken here limits root (λ j. Held) ms os s.runs.territory.blocks now args 0 xs given)
    (came : (k : ℕ) → Member k given → Member k old ⊎ (taken_in start ≤ k)) (sorted : FactsOfTheirSort here.facts) (set : List ℕ) where
  object_held : {fs : Forms} {v : Value} → Object now fs v [] given → Holding (parts fs) v r ms os first places nodes old start now
  object_held {fs} o =
      let t = taken_together taken in
      record {
        out = λ k. times k given;
        stage = s;
        out_is = λ k. omega (arith, o.set.sum k);
        under = record {
          given = o.set.blocks;
          has = subst (λ v. Has now Full (parts fs) v o.set.blocks) (sym o.same) (some_parts o.set.has);
          distinct = o.set.distinct;
          strange = λ k m n. t.strange k (inside k (o.set.of k m)) n;
          clear = clear_fewer o.set.blocks given (ms ++ os) (λ k m. inside k (o.set.of k m)) t.clear;
        };
        came = λ k m. came k (inside k (o.set.of k m));
      }
    where
      inside : (k : ℕ) → Member k [] ⊎ Member k given → Member k given
      inside k (inl m) = elim m [ ]
      inside k (inr m) = m

  abbrev Typed_as : TypeKind → Type 0
  Typed_as k = is_built (built here.facts k) && (are_distinct set && are_fields (built here.facts k) set (types_in args)) ≡ true

  object_built : {ty : Ty} {f : Form} → HasForm here.facts ty f → HasBlocksAlone f → are_placed 0 args ≡ true → Typed_as (kind_of here.facts ty) →
      Holding f (with_fields (blank f) set (values_in xs)) r ms os first places nodes old start now
  object_built of_int blocks placed e = absurd (false≢true e)
  object_built of_bool blocks placed e = absurd (false≢true e)
  object_built of_char blocks placed e = absurd (false≢true e)
  object_built of_text blocks placed e = absurd (false≢true e)
  object_built (of_sequence p h) blocks placed e = absurd (false≢true e)
  object_built (of_any_sequence p) blocks placed e = absurd (false≢true e)
  object_built (of_array h) blocks placed e = absurd (false≢true e)
  object_built (of_tuple h) blocks placed e = absurd (false≢true e)
  object_built of_parameter blocks placed e = absurd (false≢true e)
  object_built (of_enum {key = key}) blocks placed e =
      no_object here.facts (fact_of here.facts (enum key))
      (are_distinct set && are_fields (built here.facts (kind_of here.facts (enum key))) set (types_in args))
      (λ these own q. false≢true (sorted.objects (enum key) these own q)) e
  object_built (of_object {own_hooks = true} q h) blocks placed e = absurd blocks
  object_built (of_object {all = these} {own_hooks = false} {fs = fs} q h) blocks placed e =
      let t = subst (λ x. Typed_as (declared_kind x)) q e in
      object_held (fields_set (λ j. refl) false h set args (blanks fs) [] (parts_inside (blank_has now Full (parts fs) blocks)) tt (λ k m n. elim m [ ])
      (and_parts (are_distinct set) (are_fields (kind.object false (types_of these)) set (types_in args)) t).0
      (λ p m k. held_at_part k (blanks fs) p (has_none refl (blank_has now Full (parts fs) blocks) k)) taken
      (and_parts (are_distinct set) (are_fields (kind.object false (types_of these)) set (types_in args)) t).1 placed)
  object_built (of_distinct q h) blocks placed e = absurd (false≢true (subst (λ x. Typed_as (declared_kind x)) q e))
  object_built of_ref blocks placed e = absurd blocks
  object_built (of_exception {key = key}) blocks placed e =
      no_object here.facts (fact_of here.facts (exception key))
      (are_distinct set && are_fields (built here.facts (kind_of here.facts (exception key))) set (types_in args))
      (λ these own q. false≢true (sorted.objects (exception key) these own q)) e

  pub built_row : (ty : Option Ty) → IfSimple here.facts ty → building_fits here.facts ty set (types_in args) ≡ true → are_placed 0 args ≡ true →
      Sure (acts (Building set) here.facts ty (types_in args) xs) (OutOf here.facts r ms os first places nodes old start ty) now
  built_row None simple typed placed = absurd (false≢true typed)
  built_row (Some ty) simple typed placed =
      out_either here.facts r ms os first places nodes old start (Some ty) (acts (Building set) here.facts (Some ty) (types_in args) xs) now
      (subst (λ f. Holding f (with_fields (blank f) set (values_in xs)) r ms os first places nodes old start now) (sym (the_form simple.has))
      (object_built simple.has simple.blocks placed typed))

-- ---- whole

all_write : (limits : Limits) (args : Args) → are_placed 0 args ≡ true → AllWrite limits args
all_write limits NoArg placed = tt
all_write limits (ByValue value rest) placed = all_write limits rest placed
all_write limits (ByPath path rest) placed = absurd (false≢true placed)

module _ (here : Here) (scope : scopes.Here) (limits : Limits) (root : (global : Bool) → ℕ → ℕ) (first places : ℕ) (os : List Owner)
    (sorted : FactsOfTheirSort here.facts) where
  pub built_so : (node : Node) (ty : Option Ty) (set : List ℕ) (operands : Args) (how : Use) → IfSimple here.facts ty → AllRegular here.facts operands →
      building_fits here.facts ty set (types_in operands) && are_placed 0 operands ≡ true → Distinct (node.number ∷ operand_nodes operands) →
      ReadySo here scope limits root first places os (λ j. Held) operands 0 →
      ValueSo here scope limits root first places os (Apply node ty (Building set) operands) how
  built_so node ty set operands how plain regular typed d ready =
      let q = and_parts (building_fits here.facts ty set (types_in operands)) (are_placed 0 operands) typed in
      taken_so here scope limits root first places os node ty (Building set) operands how (λ j. inl refl) d regular (all_write limits operands q.1) ready
      (λ nodes later start world xs ms s b scene leaves st t.
      let R = at_nodes here.level (node.number ∷ operand_nodes operands) in
      let left = t.leaves nodes (waiting_all here.facts here.modes operands (λ j. Held) 0) leaves in
      row_valued here first places os (Apply node ty (Building set) operands) (apply_waits here node ty (Building set) operands (λ how. refl)) nodes t.later
      b.territory.blocks start t.own left how (acts (Building set) here.facts ty (types_in operands) xs) s
      (in_is node.number (node.number ∷ operand_nodes operands) (inl refl))
      (node_off (waiting_all here.facts here.modes operands (λ j. Held) 0) t.own node.number b (inl refl)
      (λ m. d.0 (operands_in here.facts here.modes operands (λ j. Held) 0 node.number m)) left.cells)
      (built_row here limits root R t.own os first places t.later b.territory.blocks start s.world
      (out_as R os first places b.territory.blocks start (λ k. omega (arith, t.out_is k)) t.stage) t.taken
      (λ k m. simple b.territory.blocks start k (st.runs.came k (t.were k m))) sorted set ty plain q.0 q.1))
    where
      simple : (old : List ℕ) (start : World) (k : ℕ) → Member k old ⊎ (Member k [] ⊎ (taken_in start ≤ k)) → Member k old ⊎ (taken_in start ≤ k)
      simple old start k (inl m) = inl m
      simple old start k (inr (inl m)) = elim m [ ]
      simple old start k (inr (inr le)) = inr le
