-- Operations on values that they take from where they wait: sequences, arrays and tuples of them, and an element that comes.
use Rattle.std.proofs.Common.{◌≡◌, refl, sym, ap, ap₂, subst, ◌∙◌, arith, ℕ, suc, ◌+◌, ◌≤◌, Bool, true, inl, inr, ◌⊎◌, List, [], ◌++◌, length}
use Rattle.std.proofs.Common.{Option, Some, None}
use Rattle.std.specs.Prelude.{◌&&◌, nat_eq}
use Rattle.std.proofs.lemmas.Bool.{false≢true, and_parts, eqb-true}
use Rattle.nim_types.specs.Types.{Ty, Tys, enum, object, distinct, exception, Fact, members, fields, base, below, fact_of}
use Rattle.nim_types.specs.Forms.{Form, Forms, elements, form_of, HasForm, AreForms, none_of, more_of}
use Rattle.nim_types.specs.Forms.{of_int, of_bool, of_char, of_text, of_sequence, of_any_sequence, of_array, of_tuple, of_parameter, of_enum}
use Rattle.nim_types.specs.Forms.{of_object, of_distinct, of_ref, of_exception}
use Rattle.nim_types.proofs.ForCallers.{the_form}
use Rattle.nim_program.specs.declared.operation.Operation.TheVariants as O
use Rattle.nim_program.specs.declared.operation.Use.{Use}
use Rattle.nim_program.specs.declared.operation.Use.TheVariants.{Owned, Given as ToPlace, Held, Lent, Looked}
use Rattle.nim_program.specs.Program.{Expr, Args, NoArg, ByValue, ByPath, type_of, types_in}
use Rattle.nim_program.specs.Kinds as kind
use Rattle.nim_program.specs.Kinds.{TypeKind, kind_of, kind_if, declared_kind, part_at, element_of, nth_type, count_types, has_parts, is_made, is_sequence}
use Rattle.nim_program.specs.Kinds.{is_of}
use Rattle.nim_program.specs.Fitting.{fits, are_parts}
use Rattle.nim_program.specs.Typed.{are_placed}
use Rattle.nim_meaning.specs.Values.{Value, Parts, Values, More, count, Operand, values_in}
use Rattle.nim_meaning.specs.Table.{operates}
use Rattle.nim_meaning.specs.Lifted.{fresh_sequence}
use Rattle.nim_meaning.specs.OwnedRows.{element_of as element_form_of}
use Rattle.nim_meaning.specs.Marks.{Member, Distinct}
use Rattle.nim_meaning.specs.State.{World}
use Rattle.nim_meaning.specs.Texts.{are_seen}
use Rattle.nim_meaning.specs.Here.{Here, form_for}
use Rattle.holders.specs.Owned.{Extent, Full, Has, HasEach, none_more, one_more, HasAll, no_parts, a_part, a_row, some_parts}
use Rattle.holders.specs.Sure.{Sure}
use Rattle.holders.specs.Becoming.{taken_in, Strange, times}
use Rattle.holders.specs.Territory.{Owner, ClearOf, Territory}
use Rattle.holders.specs.Handing.{HandsOut}
use Rattle.holders.specs.Running.{Region}
use Rattle.holders.specs.Staging.{Holding, StageWith}
use Rattle.holders.proofs.Sure.{sure_weaker}
use Rattle.holders.proofs.Owning.{plain_anywhere}
use Rattle.holders.proofs.Copying.{distinct_both, either_block}
use Rattle.holders.proofs.PlainRows.{none_clear, read_found}
use Rattle.holders.proofs.Operations.{seen_read, makes_sequence}
use Rattle.holders.proofs.Staging.{stage_hands}
use Rattle.holders.proofs.Guards.{has_whole}
use Rattle.holders.specs.Asked.{Limits, IfSimple}
use Rattle.holders.proofs.Settling.{cell_seen}
use Rattle.holders.proofs.Table.{OutOf, out_held, out_either, operated, one_row, has_hooks, none_bare}
use Rattle.holders.proofs.WaitingTaken.{Taken, none_taken, bare_taken, held_taken, lent_taken, place_taken}
use Rattle.holders.proofs.FormKinds.{same_type, sequence_form}
use Rattle.holders.proofs.Working.{clear_both}

-- ---- blocks of values together

-- no two have a block together, and none has one of the cells
pub record Together (given blocks : List ℕ) (os : List Owner) : Type 0 where
  pub distinct : Distinct given
  pub strange : Strange given blocks
  pub clear : ClearOf given os

pub taken_together : {here : Here} {limits : Limits} {root : (global : Bool) → ℕ → ℕ} {uses : (position : ℕ) → Use} {ms os : List Owner} {blocks : List ℕ}
    {world : World} {args : Args} {i : ℕ} {xs : List Operand} {given : List ℕ} → Taken here limits root uses ms os blocks world args i xs given →
    Together given blocks (ms ++ os)
taken_together {ms = ms} {os = os} none_taken = record { distinct = tt; strange = λ k m. elim m [ ]; clear = none_clear (ms ++ os) }
taken_together (bare_taken which b more) = taken_together more
taken_together (lent_taken purpose hooks own a more) = taken_together more
taken_together (place_taken f e more) = taken_together more
taken_together {ms = ms} {os = os} {blocks = blocks} (held_taken {given = given} purpose u more apart) =
    let t = taken_together more in
    record {
      distinct = distinct_both u.given given u.distinct t.distinct (λ k m n. apart k m n);
      strange = λ k m n. either_block k u.given given ⊥ m (λ q. u.strange k q n) (λ q. t.strange k q n);
      clear = clear_both u.given given (ms ++ os) u.clear t.clear;
    }

-- ---- elements of one form

pub each_shift : {world : World} {x : Extent} {f : Form} {n i : ℕ} {vs : Values} {bs : List ℕ} (v : Value) → HasEach world x f n i vs bs →
    HasEach world x f n (suc i) (More v vs) bs
each_shift v none_more = none_more
each_shift v (one_more le h more) = one_more (omega (arith, le)) h (each_shift v more)

-- values of one form alone
abbrev pub AllOf : Here → Form → Args → Type 0
AllOf here f NoArg = Unit {0}
AllOf here f (ByValue value rest) = (form_for here.facts (type_of value) ≡ f) × AllOf here f rest
AllOf here f (ByPath path rest) = ⊥

abbrev use_number : Use → ℕ
use_number Owned = 0
use_number ToPlace = 1
use_number Held = 2
use_number Lent = 3
use_number Looked = 4

pub not_lent : {A : Type 0} {uses : (position : ℕ) → Use} {i : ℕ} → ((j : ℕ) → uses j ≡ Held) → uses i ≡ Lent → A
not_lent {i = i} held e = absurd (omega (arith, ap use_number (sym (held i) ∙ e)))

pub not_bare : {A T : Type 0} {uses : (position : ℕ) → Use} {i : ℕ} → ((j : ℕ) → uses j ≡ Held) → ((uses i ≡ Lent) × T) ⊎ (uses i ≡ Looked) → A
not_bare held (inl e) = not_lent held e.0
not_bare {i = i} held (inr e) = absurd (omega (arith, ap use_number (sym (held i) ∙ e)))

module _ {here : Here} {limits : Limits} {root : (global : Bool) → ℕ → ℕ} {uses : (position : ℕ) → Use} {ms os : List Owner} {blocks : List ℕ}
    {world : World} (held : (j : ℕ) → uses j ≡ Held) where
  -- one that was taken is a value of its form
  pub each_taken : (f : Form) {args : Args} {i : ℕ} {xs : List Operand} {given : List ℕ} → AllOf here f args →
      Taken here limits root uses ms os blocks world args i xs given → HasEach world Full f (count (values_in xs)) 0 (values_in xs) given
  each_taken f all none_taken = none_more
  each_taken f all (bare_taken {value = value} {v = v} {given = given} (inl unhooked) b more) =
      one_more {bs = []} {cs = given} (omega arith)
      (subst (λ g. Has world Full g v []) all.0 (plain_anywhere world Full unhooked (b world))) (each_shift v (each_taken f all.1 more))
  each_taken f all (bare_taken (inr other) b more) = not_bare held other
  each_taken f all (held_taken {v = v} {given = given} purpose u more apart) =
      one_more {bs = u.given} {cs = given} (omega arith) (subst (λ g. Has world Full g v u.given) all.0 u.has) (each_shift v (each_taken f all.1 more))
  each_taken f all (lent_taken purpose hooks own a more) = not_lent held purpose
  each_taken f all (place_taken g e more) = elim all [ ]

-- what was taken is there
pub taken_seen : {here : Here} {limits : Limits} {root : (global : Bool) → ℕ → ℕ} {uses : (position : ℕ) → Use} {ms : List Owner} (os : List Owner)
    {blocks : List ℕ} {world : World} {args : Args} {i : ℕ} {xs : List Operand} {given : List ℕ} → Territory (ms ++ os) world →
    Taken here limits root uses ms os blocks world args i xs given → are_seen world xs ≡ true
taken_seen os t none_taken = refl
taken_seen os {world = world} t (bare_taken which b more) = ap₂ (λ m n. m && n) (has_whole tt (b world)) (taken_seen os t more)
taken_seen os t (held_taken purpose u more apart) = ap₂ (λ m n. m && n) (has_whole tt u.has) (taken_seen os t more)
taken_seen os t (lent_taken purpose hooks own a more) = ap₂ (λ m n. m && n) (cell_seen os t a) (taken_seen os t more)
taken_seen os t (place_taken f e more) = ap₂ (λ m n. m && n) (seen_read (read_found t f)) (taken_seen os t more)

-- ---- parts of a type

of_parts : (here : Here) (k : TypeKind) (t : Ty) → ((i : ℕ) → part_at k i ≡ Some t) → (args : Args) (i : ℕ) → are_parts k i (types_in args) ≡ true →
    are_placed 0 args ≡ true → AllOf here (form_of here.facts t) args
of_parts here k t same NoArg i typed placed = tt
of_parts here k t same (ByPath path rest) i typed placed = absurd (false≢true placed)
of_parts here k t same (ByValue value rest) i typed placed =
    let q = and_parts (is_of (type_of value) (part_at k i)) (are_parts k (suc i) (types_in rest)) typed in
    (ap (form_for here.facts) (same_type {a = type_of value} {b = part_at k i} q.0 ∙ same i), of_parts here k t same rest (suc i) q.1 placed)

pub all_shift : {world : World} {x : Extent} {fs : Forms} {i : ℕ} {vs : Values} {bs : List ℕ} (v : Value) → HasAll world x fs i vs bs →
    HasAll world x fs (suc i) (More v vs) bs
all_shift v (no_parts e) = no_parts (ap suc e)
all_shift v (a_part le h more) = a_part (omega (arith, le)) h (all_shift v more)

module _ {here : Here} {limits : Limits} {root : (global : Bool) → ℕ → ℕ} {uses : (position : ℕ) → Use} {ms os : List Owner} {blocks : List ℕ}
    {world : World} (held : (j : ℕ) → uses j ≡ Held) (all : Tys) where
  -- each of the form of the part at its position
  all_taken : (ts : Tys) {fs : Forms} (i : ℕ) → ((j : ℕ) → nth_type all (i + j) ≡ nth_type ts j) → AreForms true here.facts ts fs → (args : Args) {p : ℕ}
      {xs : List Operand} {given : List ℕ} → Taken here limits root uses ms os blocks world args p xs given →
      are_parts (kind.tuple all) i (types_in args) ≡ true → are_placed 0 args ≡ true → count_types ts ≡ length (types_in args) →
      HasAll world Full fs 0 (values_in xs) given
  all_taken ts i at none_of args none_taken typed placed e = no_parts refl
  all_taken ts i at none_of args (bare_taken which b more) typed placed e = absurd (omega (arith, e))
  all_taken ts i at none_of args (held_taken purpose u more apart) typed placed e = absurd (omega (arith, e))
  all_taken ts i at none_of args (lent_taken purpose hooks own a more) typed placed e = absurd (omega (arith, e))
  all_taken ts i at none_of args (place_taken f q more) typed placed e = absurd (omega (arith, e))
  all_taken ts i at (more_of h rest) args none_taken typed placed e = absurd (omega (arith, e))
  all_taken ts i at (more_of h rest) args (place_taken f q more) typed placed e = absurd (false≢true placed)
  all_taken ts i at (more_of h rest) args (lent_taken purpose hooks own a more) typed placed e = not_lent held purpose
  all_taken ts i at (more_of h rest) args (bare_taken (inr other) b more) typed placed e = not_bare held other
  all_taken _ i at (more_of {t = t} {ts = ts} h rest) (ByValue value args) (bare_taken {v = v} {given = given} (inl unhooked) b more) typed placed e =
      let q = and_parts (is_of (type_of value) (nth_type all i)) (are_parts (kind.tuple all) (suc i) (types_in args)) typed in
      a_part {bs = []} {cs = given} (omega arith)
      (subst (λ g. Has world Full g v []) (form_at value t h (same_type {a = type_of value} {b = nth_type all i} q.0) (at 0))
      (plain_anywhere world Full unhooked (b world)))
      (all_shift v (all_taken ts (suc i) (λ j. later j (at (suc j))) rest args more q.1 placed (omega (arith, e))))
    where
      form_at : {f : Form} (value : Expr) (t : Ty) → HasForm here.facts t f → type_of value ≡ nth_type all i → nth_type all (i + 0) ≡ Some t →
          form_for here.facts (type_of value) ≡ f
      form_at value t h p q = ap (form_for here.facts) (p ∙ (ap (nth_type all) (omega arith) ∙ q)) ∙ the_form h

      later : {y : Option Ty} (j : ℕ) → nth_type all (i + suc j) ≡ y → nth_type all (suc i + j) ≡ y
      later j p = ap (nth_type all) (omega arith) ∙ p
  all_taken _ i at (more_of {t = t} {ts = ts} h rest) (ByValue value args) (held_taken {v = v} {given = given} purpose u more apart) typed placed e =
      let q = and_parts (is_of (type_of value) (nth_type all i)) (are_parts (kind.tuple all) (suc i) (types_in args)) typed in
      a_part {bs = u.given} {cs = given} (omega arith)
      (subst (λ g. Has world Full g v u.given) (form_at value t h (same_type {a = type_of value} {b = nth_type all i} q.0) (at 0)) u.has)
      (all_shift v (all_taken ts (suc i) (λ j. later j (at (suc j))) rest args more q.1 placed (omega (arith, e))))
    where
      form_at : {f : Form} (value : Expr) (t : Ty) → HasForm here.facts t f → type_of value ≡ nth_type all i → nth_type all (i + 0) ≡ Some t →
          form_for here.facts (type_of value) ≡ f
      form_at value t h p q = ap (form_for here.facts) (p ∙ (ap (nth_type all) (omega arith) ∙ q)) ∙ the_form h

      later : {y : Option Ty} (j : ℕ) → nth_type all (i + suc j) ≡ y → nth_type all (suc i + j) ≡ y
      later j p = ap (nth_type all) (omega arith) ∙ p

-- ---- rows

module _ (here : Here) (limits : Limits) (root : (global : Bool) → ℕ → ℕ) (r : Region) (ms os : List Owner) (first places : ℕ) (nodes old : List ℕ)
    (start now : World) {given : List ℕ} (s : StageWith (λ k. times k given) r ms os first places nodes old start now) {args : Args} {xs : List Operand}
    (taken : Taken here limits root (λ j. Held) ms os s.runs.territory.blocks now args 0 xs given)
    (came : (k : ℕ) → Member k given → Member k old ⊎ (taken_in start ≤ k)) where
  abbrev Out_here : Option Ty → Value → World → Type 0
  Out_here ty v after = OutOf here.facts r ms os first places nodes old start ty v after

  pub sequence_row : (ty : Option Ty) → IfSimple here.facts ty → fits here.facts O.Sequence ty (types_in args) ≡ true → are_placed 0 args ≡ true →
      Sure (operates O.Sequence here.facts ty (types_in args) xs) (Out_here ty) now
  sequence_row ty simple typed placed =
      let q = and_parts (is_sequence (kind_if here.facts ty)) (are_parts (kind_if here.facts ty) 0 (types_in args)) typed in
      let e = sequence_form here.facts ty simple q.0 in
      let t = taken_together taken in
      let vs = values_in xs in
      let each : HasEach now Full e.form (count vs) 0 vs given = each_taken (λ j. refl) e.form
      (subst (λ f. AllOf here f args) e.form_is
      (of_parts here (kind_if here.facts ty) e.of (parts_same (kind_if here.facts ty) q.0 e.element) args 0 q.1 placed)) taken in
      let hooks = has_hooks here.facts r ms os first places nodes old start ty e.is refl in
      operated here.facts r ms os first places nodes old start O.Sequence ty (types_in args) xs (Out_here ty) now
      (λ z. taken_seen os s.runs.territory taken)
      (λ z. out_held here.facts r ms os first places nodes old start ty (fresh_sequence (element_form_of (form_for here.facts ty)) vs) now hooks
      (subst (λ f. Sure (fresh_sequence (element_form_of f) vs) (λ v after. Holding f v r ms os first places nodes old start after) now) (sym e.is)
      (sure_weaker (fresh_sequence e.form vs) (HandsOut (elements e.form) (ms ++ os) given s.runs.territory.blocks now)
      (λ v after. Holding (elements e.form) v r ms os first places nodes old start after) now
      (makes_sequence s.runs.territory e.form vs given each t.distinct t.strange t.clear)
      (λ v after h. stage_hands r os first places old start s came h))))
      (λ z. none_bare here.facts r ms os first places nodes old start ty (types_in args) hooks z)
    where
      parts_same : (k : TypeKind) → is_sequence k ≡ true → {t : Ty} → element_of k ≡ Some t → (i : ℕ) → part_at k i ≡ Some t
      parts_same (kind.sequence u) e q i = q
      parts_same kind.int e q i = absurd (false≢true e)
      parts_same kind.bool e q i = absurd (false≢true e)
      parts_same kind.char e q i = absurd (false≢true e)
      parts_same kind.text e q i = absurd (false≢true e)
      parts_same (kind.enum n) e q i = absurd (false≢true e)
      parts_same (kind.array n u) e q i = absurd (false≢true e)
      parts_same (kind.tuple us) e q i = absurd (false≢true e)
      parts_same (kind.object b us) e q i = absurd (false≢true e)
      parts_same (kind.distinct u) e q i = absurd (false≢true e)
      parts_same (kind.ref u) e q i = absurd (false≢true e)
      parts_same kind.exception e q i = absurd (false≢true e)
      parts_same kind.parameter e q i = absurd (false≢true e)
      parts_same kind.other e q i = absurd (false≢true e)

  -- a value of these blocks is under way
  holds_all : {f : Form} {v : Value} → Has now Full f v given → Holding f v r ms os first places nodes old start now
  holds_all h =
      let t = taken_together taken in
      record {
        out = λ k. times k given;
        stage = s;
        under = record { given = given; has = h; distinct = t.distinct; strange = t.strange; clear = t.clear };
        came = came;
        out_is = λ k. omega arith;
      }

  pub make_row : (ty : Option Ty) → IfSimple here.facts ty → fits here.facts O.Make ty (types_in args) ≡ true → are_placed 0 args ≡ true →
      Sure (operates O.Make here.facts ty (types_in args) xs) (Out_here ty) now
  make_row None simple typed placed = absurd (false≢true typed)
  make_row (Some ty) simple typed placed =
      out_either here.facts r ms os first places nodes old start (Some ty) (operates O.Make here.facts (Some ty) (types_in args) xs) now
      (one_row here.facts r ms os first places nodes old start O.Make (Some ty) (types_in args) xs
      (λ v after. Holding (form_of here.facts ty) v r ms os first places nodes old start after) now (λ d. refl) (taken_seen os s.runs.territory taken)
      (holds_all (subst (λ f. Has now Full f (Parts (values_in xs)) given) (sym (the_form simple.has)) (made simple.has (kind_of here.facts ty) refl q.0 q.1))))
    where
      k : TypeKind
      k = kind_of here.facts ty

      q : (is_made k ≡ true) × (has_parts k (length (types_in args)) && are_parts k 0 (types_in args) ≡ true)
      q = and_parts (is_made k) (has_parts k (length (types_in args)) && are_parts k 0 (types_in args)) typed

      count_of : {args : Args} {i : ℕ} {xs : List Operand} {given : List ℕ} →
          Taken here limits root (λ j. Held) ms os s.runs.territory.blocks now args i xs given →
          count (values_in xs) ≡ length (types_in args)
      count_of none_taken = refl
      count_of (bare_taken which b more) = ap suc (count_of more)
      count_of (held_taken purpose u more apart) = ap suc (count_of more)
      count_of (lent_taken purpose hooks own a more) = ap suc (count_of more)
      count_of (place_taken f e more) = ap suc (count_of more)

      declared_none : {A : Type 0} (x : Option Fact) → is_made (declared_kind x) ≡ true → A
      declared_none None e = absurd (false≢true e)
      declared_none (Some (members names)) e = absurd (false≢true e)
      declared_none (Some (fields all own)) e = absurd (false≢true e)
      declared_none (Some (base u)) e = absurd (false≢true e)
      declared_none (Some (below p)) e = absurd (false≢true e)

      made : {ty : Ty} {f : Form} → HasForm here.facts ty f → (k : TypeKind) → kind_of here.facts ty ≡ k → is_made k ≡ true →
          has_parts k (length (types_in args)) && are_parts k 0 (types_in args) ≡ true → Has now Full f (Parts (values_in xs)) given
      made of_int k e m t = absurd (false≢true (ap is_made e ∙ m))
      made of_bool k e m t = absurd (false≢true (ap is_made e ∙ m))
      made of_char k e m t = absurd (false≢true (ap is_made e ∙ m))
      made of_text k e m t = absurd (false≢true (ap is_made e ∙ m))
      made (of_sequence p h) k e m t = absurd (false≢true (ap is_made e ∙ m))
      made (of_any_sequence p) k e m t = absurd (false≢true (ap is_made e ∙ m))
      made (of_array {n = n} {t = u} {f = g} h) k e m t =
          let z = subst (λ k. has_parts k (length (types_in args)) && are_parts k 0 (types_in args) ≡ true) (sym e) t in
          let parts = and_parts (nat_eq n (length (types_in args))) (are_parts (kind.array n u) 0 (types_in args)) z in
          let counted = count_of taken ∙ sym (eqb-true n (length (types_in args)) parts.0) in
          a_row counted (subst (λ m. HasEach now Full g m 0 (values_in xs) given) counted
          (each_taken (λ j. refl) g (subst (λ f. AllOf here f args) (the_form h) (of_parts here (kind.array n u) u (λ i. refl) args 0 parts.1 placed)) taken))
      made (of_tuple {ts = ts} h) k e m t =
          let z = subst (λ k. has_parts k (length (types_in args)) && are_parts k 0 (types_in args) ≡ true) (sym e) t in
          let parts = and_parts (nat_eq (count_types ts) (length (types_in args))) (are_parts (kind.tuple ts) 0 (types_in args)) z in
          some_parts (all_taken (λ j. refl) ts ts 0 (λ j. ap (nth_type ts) (omega arith)) h args taken parts.1 placed
          (eqb-true (count_types ts) (length (types_in args)) parts.0))
      made of_parameter k e m t = absurd (false≢true (ap is_made e ∙ m))
      made (of_enum {key = key}) k e m t = declared_none (fact_of here.facts (enum key)) (ap is_made e ∙ m)
      made (of_object {key = key} {arguments = arguments} p h) k e m t = declared_none (fact_of here.facts (object key arguments)) (ap is_made e ∙ m)
      made (of_distinct {key = key} p h) k e m t = declared_none (fact_of here.facts (distinct key)) (ap is_made e ∙ m)
      made of_ref k e m t = absurd (false≢true (ap is_made e ∙ m))
      made (of_exception {key = key}) k e m t = declared_none (fact_of here.facts (exception key)) (ap is_made e ∙ m)
