-- Values of parts that are known before any run, and what types start at.
use Rattle.std.proofs.Common.{◌≡◌, ℕ, zero, suc, Bool, true, false, List, [], ◌∷◌, length, Option, Some, None, refl, sym, ap, subst, ◌∙◌, arith}
use Rattle.std.specs.Prelude.{pos, ◌&&◌}
use Rattle.std.proofs.lemmas.Bool.{and_parts, eqb-true, eq-eqb}
use Rattle.nim_types.specs.Types as type
use Rattle.nim_types.specs.Types.{Ty, Tys, no_types, types, Field, Fact, members, fields, base, below, Facts, fact_of, fields_in, members_in}
use Rattle.nim_types.specs.Forms as form
use Rattle.nim_types.specs.Forms.{Form, Forms, IsForm, AreForms, HasForm, form_of, types_of}
use Rattle.nim_types.proofs.ForCallers.{the_form}
use Rattle.nim_program.specs.declared.operation.Operation.TheVariants as O
use Rattle.nim_program.specs.Program.{Literal, Literals, Number, PartsOf, ElementsOf, NoLiteral, ALiteral}
use Rattle.nim_program.specs.Ints.{fits as is_int_value, inside}
use Rattle.nim_program.specs.Defaults.{times, blank_literal, blank_literals, default_literal}
use Rattle.nim_program.specs.Kinds as kind
use Rattle.nim_program.specs.Kinds.{TypeKind, declared_kind, kind_of, plain_kind, is_int, is_bool, is_text, is_ordinal, is_sequence, is_made, has_length}
use Rattle.nim_program.specs.Kinds.{is_among, is_value}
use Rattle.nim_program.specs.Kinds.{count_literals, count_types, nth_type, is_constant, are_constants, has_parts, part_at, field_at, for_some, is_of, is_there}
use Rattle.nim_program.specs.Fitting.{fits, are_parts}
use Rattle.expr_rules.specs.Constants.{comes_to, limited}
use Rattle.typing_laws.specs.Sound.{Sound, AllSound, AreSound, of_int, of_bool, of_char, of_text, of_sequence, of_array, of_tuple, of_enum, of_object}
use Rattle.typing_laws.specs.Sound.{of_distinct}
use Rattle.typing_laws.specs.Sound.{no_more, and_more}
use Rattle.typing_laws.proofs.Tests.{both, never, some_one, none_some, the_same}
use Rattle.typing_laws.proofs.Positions.{behind, at_position}
use Rattle.typing_laws.proofs.Measures.{limited_is, few_elements}
use Rattle.typing_laws.proofs.Measures.{is_wrapped, plain_by}
use Rattle.typing_laws.proofs.Constants as K
use Rattle.typing_laws.proofs.Constants.{Closed, ClosedOne}

module _ (facts : Facts) (sound : AreSound facts) (closed : Closed) (closed_one : ClosedOne) where
  abbrev Kept : Ty → Literal → Type 0
  Kept t l = K.Kept facts sound closed closed_one t l

  abbrev AllKept : List (Option Ty) → Literals → Type 0
  AllKept os ls = K.AllKept facts sound closed closed_one os ls

  -- ---- parts

  -- the types of parts are sound
  nth_sound : (ts : Tys) (i : ℕ) (s : Ty) → AllSound facts ts → nth_type ts i ≡ Some s → Sound facts s
  nth_sound no_types i s h e = none_some e
  nth_sound (types t ts) zero s (and_more h more) e = subst (Sound facts) (some_one e) h
  nth_sound (types t ts) (suc i) s (and_more h more) e = nth_sound ts i s more e

  pub part_sound : (t : Ty) → Sound facts t → (i : ℕ) (s : Ty) → part_at (kind_of facts t) i ≡ Some s → Sound facts s
  part_sound type.int of_int i s e = none_some e
  part_sound type.bool of_bool i s e = none_some e
  part_sound type.char of_char i s e = none_some e
  part_sound type.text of_text i s e = none_some e
  part_sound (type.sequence t) (of_sequence h) i s e = subst (Sound facts) (some_one e) h
  part_sound (type.array n t) (of_array l h) i s e = subst (Sound facts) (some_one e) h
  part_sound (type.tuple names ts) (of_tuple h) i s e = nth_sound ts i s h e
  part_sound (type.enum key) (of_enum f) i s e = none_some (sym (ap (λ o. part_at (declared_kind o) i) f) ∙ e)
  part_sound (type.object key ts) (of_object {all = all} {resource = resource} f) i s e =
      nth_sound (types_of all) i s (sound.parts (type.object key ts) all resource f) (sym (ap (λ o. part_at (declared_kind o) i) f) ∙ e)
  part_sound (type.distinct key) (of_distinct f) i s e = none_some (sym (ap (λ o. part_at (declared_kind o) i) f) ∙ e)
  part_sound (type.parameter n) h i s e = elim h [ ]
  part_sound (type.ref name t) h i s e = elim h [ ]
  part_sound (type.exception key) h i s e = elim h [ ]

  abbrev pub PartsSound : TypeKind → Type 0
  PartsSound k = (i : ℕ) (s : Ty) → part_at k i ≡ Some s → Sound facts s

  pub is_both : (o p : Option Ty) → is_of o p ≡ true → (t : Ty) × (o ≡ Some t) × (p ≡ Some t)
  is_both None p h = never h
  is_both (Some s) None h = never h
  is_both (Some s) (Some t) h = (t, ap (λ t. Some t) (the_same h), refl)

  parts_kept : (k : TypeKind) (i : ℕ) (os : List (Option Ty)) (ls : Literals) → are_parts k i os ≡ true → AllKept os ls → PartsSound k
      → are_constants facts k i ls ≡ true
  parts_kept k i [] NoLiteral f h s = refl
  parts_kept k i [] (ALiteral l ls) f h s = absurd h
  parts_kept k i (o ∷ os) NoLiteral f h s = absurd h
  parts_kept k i (o ∷ os) (ALiteral l ls) f h s =
      let p = and_parts (is_of o (part_at k i)) (are_parts k (suc i) os) f in
      let q = is_both o (part_at k i) p.0 in
      both (subst (λ o. for_some o (λ ty. is_constant facts ty l) ≡ true) (sym q.2) ((h.0 q.0 q.1).1 (s i q.0 q.2))) (parts_kept k (suc i) os ls p.1 h.1 s)

  as_many : (os : List (Option Ty)) (ls : Literals) → AllKept os ls → length os ≡ count_literals ls
  as_many [] NoLiteral h = refl
  as_many [] (ALiteral l ls) h = absurd h
  as_many (o ∷ os) NoLiteral h = absurd h
  as_many (o ∷ os) (ALiteral l ls) h = ap suc (as_many os ls h.1)

  made_apart : (k : TypeKind) → is_made k ≡ true → is_wrapped k ≡ false
  made_apart (kind.array n t) h = refl
  made_apart (kind.tuple ts) h = refl
  made_apart k h = never h

  made_length : (k : TypeKind) (n : ℕ) → is_made k ≡ true → has_parts k n ≡ true → has_length k ≡ true → is_int_value (pos n) ≡ true
  made_length (kind.array m t) n h p l = subst (λ n. is_int_value (pos n) ≡ true) (eqb-true m n p) l
  made_length (kind.tuple ts) n h p l = never l
  made_length k n h p l = never h

  pub make_kept : (t : Ty) (os : List (Option Ty)) (ls : Literals) (l : Literal) → fits facts O.Make (Some t) os ≡ true → AllKept os ls
      → limited (PartsOf ls) ≡ comes_to l → Kept t l
  make_kept t os ls l f h e =
      let p = and_parts (is_made (kind_of facts t)) (has_parts (kind_of facts t) (length os) && are_parts (kind_of facts t) 0 os) f in
      let q = and_parts (has_parts (kind_of facts t) (length os)) (are_parts (kind_of facts t) 0 os) p.1 in
      let same : plain_kind facts t ≡ kind_of facts t = plain_by facts sound t (made_apart (kind_of facts t) p.0) in
      let has : has_parts (kind_of facts t) (count_literals ls) ≡ true = subst (λ n. has_parts (kind_of facts t) n ≡ true) (as_many os ls h) q.0 in
      subst (Kept t) (limited_is (PartsOf ls) l e).0 (
        (λ long. made_length (kind_of facts t) (count_literals ls) p.0 has (subst (λ k. has_length k ≡ true) same long)),
        λ s. subst (λ k. (has_parts k (count_literals ls) && are_constants facts k 0 ls) ≡ true) (sym same)
            (both has (parts_kept (kind_of facts t) 0 os ls q.1 h (part_sound t s))),
      )

  sequence_apart : (k : TypeKind) → is_sequence k ≡ true → is_wrapped k ≡ false
  sequence_apart (kind.sequence t) h = refl
  sequence_apart k h = never h

  pub sequence_kept : (t : Ty) (os : List (Option Ty)) (ls : Literals) (l : Literal) → fits facts O.Sequence (Some t) os ≡ true → AllKept os ls
      → limited (ElementsOf ls) ≡ comes_to l → Kept t l
  sequence_kept t os ls l f h e =
      let p = and_parts (is_sequence (kind_of facts t)) (are_parts (kind_of facts t) 0 os) f in
      let same : plain_kind facts t ≡ kind_of facts t = plain_by facts sound t (sequence_apart (kind_of facts t) p.0) in
      let q = limited_is (ElementsOf ls) l e in
      let n = few_elements ls q.1 in
      subst (Kept t) q.0 (
        n,
        λ s. subst (λ k. ((is_sequence k && is_int_value (pos (count_literals ls))) && are_constants facts k 0 ls) ≡ true) (sym same)
            (both (both p.0 n) (parts_kept (kind_of facts t) 0 os ls p.1 h (part_sound t s))),
      )

  -- ---- what a type starts at

  alike_times : (k : TypeKind) (i n : ℕ) (t : Ty) (l : Literal) → ((j : ℕ) → part_at k j ≡ Some t) → is_constant facts t l ≡ true
      → are_constants facts k i (times n l) ≡ true
  alike_times k i zero t l p h = refl
  alike_times k i (suc n) t l p h =
      both (subst (λ o. for_some o (λ ty. is_constant facts ty l) ≡ true) (sym (p i)) h) (alike_times k (suc i) n t l p h)

  count_times : (n : ℕ) (l : Literal) → n ≡ count_literals (times n l)
  count_times zero l = refl
  count_times (suc n) l = ap suc (count_times n l)

  blank_count : {ts : Tys} {fs : Forms} → AreForms true facts ts fs → count_types ts ≡ count_literals (blank_literals fs)
  blank_count form.none_of = refl
  blank_count (form.more_of h more) = ap suc (blank_count more)

  number_blank : (k : TypeKind) (t : Ty) → kind_of facts t ≡ k → is_wrapped k ≡ false → is_among k (pos 0) ≡ true → Sound facts t
      → is_constant facts t (Number (pos 0)) ≡ true
  number_blank k t e w a s = (K.number_of facts sound closed closed_one k t (pos 0) e w refl a).1 s

  by_plain : (t : Ty) (k : TypeKind) (l : Literal) → kind_of facts t ≡ k → is_wrapped k ≡ false → (all : Literals) → l ≡ PartsOf all
      → (has_parts k (count_literals all) && are_constants facts k 0 all) ≡ true → is_constant facts t l ≡ true
  by_plain t k l e w all is h =
      subst (λ l. is_constant facts t l ≡ true) (sym is)
      (subst (λ k. (has_parts k (count_literals all) && are_constants facts k 0 all) ≡ true)
      (sym (plain_by facts sound t (subst (λ k. is_wrapped k ≡ false) (sym e) w) ∙ e)) h)

  mutual
    blank_kept : {t : Ty} {f : Form} → IsForm true facts t f → Sound facts t → is_constant facts t (blank_literal f) ≡ true
    blank_kept form.of_int s = number_blank kind.int type.int refl refl refl s
    blank_kept form.of_bool s = number_blank kind.bool type.bool refl refl refl s
    blank_kept form.of_char s = number_blank kind.char type.char refl refl refl s
    blank_kept form.of_text s = (K.text_kept facts sound closed closed_one type.text [] refl refl).1 s
    blank_kept (form.of_sequence {t = t} w h) s =
        subst (λ k. ((is_sequence k && is_int_value (pos 0)) && true) ≡ true) (sym (plain_by facts sound (type.sequence t) refl)) refl
    blank_kept (form.of_any_sequence w) s = never (sym w)
    blank_kept (form.of_array {n = n} {t = t} {f = f} h) (of_array l s) =
        by_plain (type.array n t) (kind.array n t) (PartsOf (times n (blank_literal f))) refl refl (times n (blank_literal f)) refl
        (both (eq-eqb n (count_literals (times n (blank_literal f))) (count_times n (blank_literal f)))
        (alike_times (kind.array n t) 0 n t (blank_literal f) (λ j. refl) (blank_kept h s)))
    blank_kept (form.of_tuple {names = names} {ts = ts} {fs = fs} h) (of_tuple s) =
        by_plain (type.tuple names ts) (kind.tuple ts) (PartsOf (blank_literals fs)) refl refl (blank_literals fs) refl
        (both (eq-eqb (count_types ts) (count_literals (blank_literals fs)) (blank_count h)) (blanks_kept (kind.tuple ts) ts (λ j. refl) 0 refl h s))
    blank_kept form.of_parameter s = elim s [ ]
    blank_kept form.of_enum s = by_sound s
      where
        by_sound : {key : type.Key} → Sound facts (type.enum key) → is_constant facts (type.enum key) (Number (pos 0)) ≡ true
        by_sound (of_enum {key = key} {first = first} {rest = rest} f) =
            number_blank (kind.enum (suc (length rest))) (type.enum key) (ap declared_kind f) refl (first_inside (length rest)) (of_enum f)
          where
            first_inside : (n : ℕ) → inside (pos 0) (suc n) ≡ true
            first_inside n = both refl (grind arith)
    blank_kept (form.of_object {key = key} {arguments = ts} {all = all} {own_hooks = own} {fs = fs} e h) s =
        by_plain (type.object key ts) (kind.object own (types_of all)) (blank_literal (form.object_form own fs)) (ap declared_kind e) refl (blank_literals fs)
        (either own)
        (both (eq-eqb (count_types (types_of all)) (count_literals (blank_literals fs)) (blank_count h))
        (blanks_kept (kind.object own (types_of all)) (types_of all) (λ j. refl) 0 refl h (sound.parts (type.object key ts) all own e)))
      where
        either : (own : Bool) → blank_literal (form.object_form own fs) ≡ PartsOf (blank_literals fs)
        either true = refl
        either false = refl
    blank_kept (form.of_distinct {key = key} {t = t} {f = f} e h) s =
        K.same_values facts sound closed closed_one (type.distinct key) t (blank_literal f) (sound.plain (type.distinct key) t e)
        ∙ blank_kept h (sound.bases (type.distinct key) t e)
    blank_kept form.of_ref s = elim s [ ]
    blank_kept form.of_exception s = elim s [ ]

    blanks_kept : (k : TypeKind) (all : Tys) → ((j : ℕ) → part_at k j ≡ nth_type all j) → (i : ℕ) {ts : Tys} {fs : Forms} → behind i all ≡ ts
        → AreForms true facts ts fs → AllSound facts ts → are_constants facts k i (blank_literals fs) ≡ true
    blanks_kept k all p i e form.none_of no_more = refl
    blanks_kept k all p i e (form.more_of {t = t} {ts = ts} {f = f} h more) (and_more s others) =
        let q = at_position i all t ts e in
        both (subst (λ o. for_some o (λ ty. is_constant facts ty (blank_literal f)) ≡ true) (sym (p i ∙ q.0)) (blank_kept h s))
        (blanks_kept k all p (suc i) q.1 more others)

  pub default_kept : (t : Ty) → Sound facts t → is_constant facts t (default_literal facts t) ≡ true
  default_kept t s =
      let f = sound.forms t s in
      subst (λ g. is_constant facts t (blank_literal g) ≡ true) (sym (the_form f.1)) (blank_kept f.1 s)
