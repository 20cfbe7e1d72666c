-- What is true of types stays true where more is said.
use Rattle.std.proofs.Common.{◌≡◌, ℕ, suc, ◌≤◌, ◌<◌, Bool, true, false, List, [], ◌∷◌, ◌++◌, Option, Some, None, refl, sym, ap, subst, ◌∙◌, arith}
use Rattle.std.specs.Prelude.{pos, ◌&&◌, nat_eq, if◌then◌else◌}
use Rattle.std.proofs.lemmas.Bool.{and_parts, eqb-true, eq-eqb}
use Rattle.nim_types.specs.Types as type
use Rattle.nim_types.specs.Types.{Ty, Tys, Fact, Facts, fact_of}
use Rattle.nim_types.specs.Forms as form
use Rattle.nim_types.specs.Forms.{Form, IsForm, HasForm}
use Rattle.nim_program.specs.Program.{Literal, Literals, Number, Characters, NoObject, PartsOf, ElementsOf, NoLiteral, ALiteral, Declared}
use Rattle.nim_program.specs.Ints.{fits}
use Rattle.nim_program.specs.Kinds.{TypeKind, kind_of, plain_kind, part_at, is_value, is_text, is_ref, is_sequence, has_parts, count_literals}
use Rattle.nim_program.specs.Kinds.{is_constant}
use Rattle.nim_program.specs.Kinds.{are_constants, for_some, is_selected}
use Rattle.nim_program.specs.Scopes.{Here, Placed, placed, look, with_place}
use Rattle.expr_rules.specs.Env as env_of
use Rattle.expr_rules.specs.Env.{Env, Entry, Parameter, Procedure}
use Rattle.typing_laws.specs.Sound.{Sound, AllSound, no_more, and_more, AreSound, of_int, of_bool, of_char, of_text, of_sequence, of_array, of_tuple, of_enum}
use Rattle.typing_laws.specs.Sound.{of_object, of_distinct}
use Rattle.typing_laws.specs.Knows.{IfSound, AllParameters, IsCalled, IsBorrowedFor, Fits, EntryFits, EntriesFit, with_facts}
use Rattle.typing_laws.proofs.Tests.{both, never, none_some}
use Rattle.typing_laws.proofs.SoundKinds.{plain_as}
use Rattle.typing_laws.proofs.Labels.{kept_kind}
use Rattle.typing_laws.proofs.Starts as N
use Rattle.typing_laws.proofs.Constants.{Closed, ClosedOne}

-- more is said
abbrev pub Said : (f g : Facts) → Type 0
Said f g = (ty : Ty) (fact : Fact) → fact_of f ty ≡ Some fact → fact_of g ty ≡ Some fact

mutual
  pub sound_grown : {f g : Facts} {t : Ty} → Said f g → Sound f t → Sound g t
  sound_grown said of_int = of_int
  sound_grown said of_bool = of_bool
  sound_grown said of_char = of_char
  sound_grown said of_text = of_text
  sound_grown said (of_sequence h) = of_sequence (sound_grown said h)
  sound_grown said (of_array l h) = of_array l (sound_grown said h)
  sound_grown said (of_tuple h) = of_tuple (all_grown said h)
  sound_grown said (of_enum e) = of_enum (said _ _ e)
  sound_grown said (of_object e) = of_object (said _ _ e)
  sound_grown said (of_distinct e) = of_distinct (said _ _ e)

  pub all_grown : {f g : Facts} {ts : Tys} → Said f g → AllSound f ts → AllSound g ts
  all_grown said no_more = no_more
  all_grown said (and_more h more) = and_more (sound_grown said h) (all_grown said more)

module _ (f g : Facts) (said : Said f g) (sf : AreSound f) (sg : AreSound g) (closed : Closed) (closed_one : ClosedOne) where
  plain_alike : {t : Ty} {x : Form} → IsForm true f t x → Sound f t → plain_kind g t ≡ plain_kind f t
  plain_alike (form.of_distinct {key = key} {t = t} e h) s =
      sg.plain (type.distinct key) t (said (type.distinct key) (type.base t) e) ∙ plain_alike h (sf.bases (type.distinct key) t e)
      ∙ sym (sf.plain (type.distinct key) t e)
  plain_alike form.of_int s = plain_as sg of_int refl ∙ sym (plain_as sf of_int refl)
  plain_alike form.of_bool s = plain_as sg of_bool refl ∙ sym (plain_as sf of_bool refl)
  plain_alike form.of_char s = plain_as sg of_char refl ∙ sym (plain_as sf of_char refl)
  plain_alike form.of_text s = plain_as sg of_text refl ∙ sym (plain_as sf of_text refl)
  plain_alike (form.of_sequence w h) s = plain_as sg (sound_grown said s) refl ∙ sym (plain_as sf s refl)
  plain_alike (form.of_any_sequence w) s = never (sym w)
  plain_alike (form.of_array h) s = plain_as sg (sound_grown said s) refl ∙ sym (plain_as sf s refl)
  plain_alike (form.of_tuple h) s = plain_as sg (sound_grown said s) refl ∙ sym (plain_as sf s refl)
  plain_alike form.of_enum s = plain_as sg (sound_grown said s) refl ∙ kept_kind g f said s ∙ sym (plain_as sf s refl)
  plain_alike (form.of_object e h) s = plain_as sg (sound_grown said s) refl ∙ kept_kind g f said s ∙ sym (plain_as sf s refl)
  plain_alike form.of_parameter s = elim s [ ]
  plain_alike form.of_ref s = elim s [ ]
  plain_alike form.of_exception s = elim s [ ]

  pub plain_grown : (t : Ty) → Sound f t → plain_kind g t ≡ plain_kind f t
  plain_grown t s = plain_alike (sf.forms t s).1 s

  abbrev PartsSound : TypeKind → Type 0
  PartsSound k = (i : ℕ) (s : Ty) → part_at k i ≡ Some s → Sound f s

  parts_by : (t : Ty) → Sound f t → plain_kind f t ≡ kind_of f t → PartsSound (plain_kind f t)
  parts_by t s e i u p = N.part_sound f sf closed closed_one t s i u (sym (ap (λ k. part_at k i) e) ∙ p)

  plain_parts : {t : Ty} {x : Form} → IsForm true f t x → Sound f t → PartsSound (plain_kind f t)
  plain_parts (form.of_distinct {key = key} {t = t} e h) s =
      subst PartsSound (sym (sf.plain (type.distinct key) t e)) (plain_parts h (sf.bases (type.distinct key) t e))
  plain_parts form.of_int s = parts_by type.int s (plain_as sf of_int refl)
  plain_parts form.of_bool s = parts_by type.bool s (plain_as sf of_bool refl)
  plain_parts form.of_char s = parts_by type.char s (plain_as sf of_char refl)
  plain_parts form.of_text s = parts_by type.text s (plain_as sf of_text refl)
  plain_parts (form.of_sequence {t = t} w h) s = parts_by (type.sequence t) s (plain_as sf s refl)
  plain_parts (form.of_any_sequence w) s = never (sym w)
  plain_parts (form.of_array {n = n} {t = t} h) s = parts_by (type.array n t) s (plain_as sf s refl)
  plain_parts (form.of_tuple {names = names} {ts = ts} h) s = parts_by (type.tuple names ts) s (plain_as sf s refl)
  plain_parts (form.of_enum {key = key}) s = parts_by (type.enum key) s (plain_as sf s refl)
  plain_parts (form.of_object {key = key} {arguments = ts} e h) s = parts_by (type.object key ts) s (plain_as sf s refl)
  plain_parts form.of_parameter s = elim s [ ]
  plain_parts form.of_ref s = elim s [ ]
  plain_parts form.of_exception s = elim s [ ]

  mutual
    pub constant_grown : (t : Ty) (l : Literal) → Sound f t → is_constant f t l ≡ true → is_constant g t l ≡ true
    constant_grown t (Number z) s c = subst (λ k. is_value k z ≡ true) (sym (plain_grown t s)) c
    constant_grown t (Characters bytes) s c = subst (λ k. is_text k ≡ true) (sym (plain_grown t s)) c
    constant_grown t NoObject s c = subst (λ k. is_ref k ≡ true) (sym (plain_grown t s)) c
    constant_grown t (PartsOf all) s c =
        let p = and_parts (has_parts (plain_kind f t) (count_literals all)) (are_constants f (plain_kind f t) 0 all) c in
        subst (λ k. (has_parts k (count_literals all) && are_constants g k 0 all) ≡ true) (sym (plain_grown t s))
        (both p.0 (constants_grown (plain_kind f t) 0 all (plain_parts (sf.forms t s).1 s) p.1))
    constant_grown t (ElementsOf all) s c =
        let p = and_parts (is_sequence (plain_kind f t) && fits (pos (count_literals all))) (are_constants f (plain_kind f t) 0 all) c in
        subst (λ k. ((is_sequence k && fits (pos (count_literals all))) && are_constants g k 0 all) ≡ true) (sym (plain_grown t s))
        (both p.0 (constants_grown (plain_kind f t) 0 all (plain_parts (sf.forms t s).1 s) p.1))

    constants_grown : (k : TypeKind) (i : ℕ) (all : Literals) → PartsSound k → are_constants f k i all ≡ true → are_constants g k i all ≡ true
    constants_grown k i NoLiteral s c = refl
    constants_grown k i (ALiteral first rest) s c =
        let p = and_parts (for_some (part_at k i) (λ ty. is_constant f ty first)) (are_constants f k (suc i) rest) c in
        both (by_part (part_at k i) refl p.0 (λ t e c. constant_grown t first (s i t e) c)) (constants_grown k (suc i) rest s p.1)
      where
        by_part : (o : Option Ty) → part_at k i ≡ o → for_some o (λ ty. is_constant f ty first) ≡ true
            → ((t : Ty) → part_at k i ≡ Some t → is_constant f t first ≡ true → is_constant g t first ≡ true)
            → for_some o (λ ty. is_constant g ty first) ≡ true
        by_part None e c go = never c
        by_part (Some t) e c go = go t e c

  -- ---- declarations

  if_grown : (ty : Option Ty) → IfSound f ty → IfSound g ty
  if_grown None h = tt
  if_grown (Some ty) h = sound_grown said h

  parameters_grown : (ps : List Parameter) → AllParameters (λ q. Sound f q.of) ps → AllParameters (λ q. Sound g q.of) ps
  parameters_grown [] h = tt
  parameters_grown (p ∷ ps) h = (sound_grown said h.0, parameters_grown ps h.1)

  borrowed_grown : (p : Procedure) → IsBorrowedFor f p → IsBorrowedFor g p
  borrowed_grown p h =
      record {
        of = h.of;
        sound = sound_grown said h.sound;
        all = h.all;
        selected = subst (λ k. is_selected k ≡ true) (sym (plain_grown h.of h.sound)) h.selected;
      }

  called_grown : (here : Here) (p : Procedure) → IsCalled (with_facts here f) p → IsCalled (with_facts here g) p
  called_grown here p h =
      record { proc = h.proc; there = h.there; no_hook = h.no_hook; ready = h.ready; types = h.types; gives = h.gives; params = h.params }

  fits_grown : (here : Here) (b : Bool) (p : Procedure) → Fits (with_facts here f) b p → Fits (with_facts here g) b p
  fits_grown here true p h = borrowed_grown p h
  fits_grown here false p h = called_grown here p h

  entry_grown : (here : Here) (e : Entry) → EntryFits (with_facts here f) e → EntryFits (with_facts here g) e
  entry_grown here (env_of.variable name place of writable true) h = (h.0, sound_grown said h.1)
  entry_grown here (env_of.variable name place of writable false) h = (h.0, sound_grown said h.1)
  entry_grown here (env_of.constant name of l) h = (constant_grown of l h.1 h.0, sound_grown said h.1)
  entry_grown here (env_of.named name of) h = sound_grown said h
  entry_grown here (env_of.pending name) h = tt
  entry_grown here (env_of.procedure name p) h =
      ((fits_grown here p.borrowed p h.0.0, parameters_grown p.params h.0.1, if_grown p.gives h.0.2), h.1)
  entry_grown here (env_of.input name) h = tt

  pub entries_grown : (here : Here) (es : List Entry) → EntriesFit (with_facts here f) es → EntriesFit (with_facts here g) es
  entries_grown here [] h = tt
  entries_grown here (e ∷ es) h = (entry_grown here e h.0, entries_grown here es h.1)

-- ---- a further place

-- all places have numbers below one
abbrev pub Under : ℕ → List Placed → Type 0
Under n [] = Unit {0}
Under n (p ∷ ps) = (p.number < n) × Under n ps

pub under_more : (n m : ℕ) (ps : List Placed) → n ≤ m → Under n ps → Under m ps
under_more n m [] l h = tt
under_more n m (p ∷ ps) l h = (omega (arith, l, h.0), under_more n m ps l h.1)

pub under_one : (n : ℕ) (ps : List Placed) (p : Placed) → Under n ps → p.number ≡ n → Under (suc n) (ps ++ p ∷ [])
under_one n [] p h e = (omega (arith, e), tt)
under_one n (q ∷ ps) p h e = (omega (arith, h.0), under_one n ps p h.1 e)

still_found : (ps more : List Placed) (n : ℕ) (ty : Ty) → look ps n ≡ Some ty → look (ps ++ more) n ≡ Some ty
still_found [] more n ty e = none_some e
still_found (p ∷ ps) more n ty e = by_test (nat_eq p.number n) e (λ e. still_found ps more n ty e)
  where
    by_test : (b : Bool) → (if b then Some p.of else look ps n) ≡ Some ty → (look ps n ≡ Some ty → look (ps ++ more) n ≡ Some ty)
        → (if b then Some p.of else look (ps ++ more) n) ≡ Some ty
    by_test true e rest = e
    by_test false e rest = rest e

pub found_last : (ps : List Placed) (p : Placed) → Under p.number ps → look (ps ++ p ∷ []) p.number ≡ Some p.of
found_last [] p h = ap (λ b. if b then Some p.of else None) (eq-eqb p.number p.number refl)
found_last (q ∷ ps) p h = by_test (nat_eq q.number p.number) refl (found_last ps p h.1)
  where
    less : (a b : ℕ) → a < b → a ≡ b → ⊥
    less a b l e = absurd (omega (arith, l, e))

    by_test : (b : Bool) → nat_eq q.number p.number ≡ b → look (ps ++ p ∷ []) p.number ≡ Some p.of
        → (if b then Some q.of else look (ps ++ p ∷ []) p.number) ≡ Some p.of
    by_test true e rest = absurd (less q.number p.number h.0 (eqb-true q.number p.number e))
    by_test false e rest = rest

entry_placed : (here : Here) (d : Declared) (e : Entry) → EntryFits here e → EntryFits (with_place here d) e
entry_placed here d (env_of.variable name place of writable true) h = h
entry_placed here d (env_of.variable name place of writable false) h = (still_found here.places (placed d ∷ []) place of h.0, h.1)
entry_placed here d (env_of.constant name of l) h = h
entry_placed here d (env_of.named name of) h = h
entry_placed here d (env_of.pending name) h = tt
entry_placed here d (env_of.procedure name p) h = ((by_borrowed p.borrowed h.0.0, h.0.1, h.0.2), h.1)
  where
    by_borrowed : (b : Bool) → Fits here b p → Fits (with_place here d) b p
    by_borrowed true h = h
    by_borrowed false h =
        record { proc = h.proc; there = h.there; no_hook = h.no_hook; ready = h.ready; types = h.types; gives = h.gives; params = h.params }
entry_placed here d (env_of.input name) h = tt

pub entries_placed : (here : Here) (d : Declared) (es : List Entry) → EntriesFit here es → EntriesFit (with_place here d) es
entries_placed here d [] h = tt
entries_placed here d (e ∷ es) h = (entry_placed here d e h.0, entries_placed here d es h.1)

pub entries_more : (here : Here) (es more : List Entry) → EntriesFit here es → EntriesFit here more → EntriesFit here (es ++ more)
entries_more here [] more h k = k
entries_more here (e ∷ es) more h k = (h.0, entries_more here es more h.1 k)
