-- Constants have the forms of their types.
use Rattle.std.proofs.Common.{◌≡◌, refl, sym, ap, subst, ◌∙◌, arith, ℕ, zero, suc, ◌+◌, Bool, true, false, List, [], length, Option, Some, None}
use Rattle.std.specs.Prelude.{◌&&◌, nat_eq, pos}
use Rattle.std.proofs.lemmas.Bool.{false≢true, and_parts, eqb-true}
use Rattle.std.proofs.lemmas.Option.{same_Some}
use Rattle.nim_types.specs.Types.{Ty, Tys, Key, Field, enum, object, distinct, exception, Fact, members, fields, base, below, Facts, fact_of, base_in}
use Rattle.nim_types.specs.Forms.{Form, Forms, block, wrapped, types_of, HasForm, AreForms, none_of, more_of}
use Rattle.nim_types.specs.Forms.{of_int, of_bool, of_char, of_text, of_sequence, of_any_sequence, of_array, of_tuple, of_parameter, of_enum}
use Rattle.nim_types.specs.Forms.{of_object, of_distinct, of_ref, of_exception}
use Rattle.nim_program.specs.Program.{Literal, Literals, Number, Characters, NoObject, PartsOf, ElementsOf, NoLiteral, ALiteral}
use Rattle.nim_program.specs.Kinds as kind
use Rattle.nim_program.specs.Kinds.{TypeKind, kind_of, declared_kind, below_distinct, plain_kind, base_or, is_text, is_ref, is_sequence, is_among, has_parts}
use Rattle.nim_program.specs.Kinds.{part_at}
use Rattle.nim_program.specs.Kinds.{for_some, nth_type, count_types, is_constant, are_constants, count_literals}
use Rattle.nim_program.specs.Ints.{fits}
use Rattle.nim_meaning.specs.Values.{Value, Parts, Fixed, count, literal_value, literal_values}
use Rattle.nim_meaning.specs.State.{World}
use Rattle.holders.specs.Owned.{Constant, Has, a_number, constant_text, constant_sequence, a_row, some_parts, of_wrapped, HasEach, none_more, one_more}
use Rattle.holders.specs.Owned.{HasAll, no_parts, a_part, HasBlocksAlone, HaveBlocksAlone}
use Rattle.holders.specs.Asked.{FactsOfTheirSort}
use Rattle.holders.proofs.Constants.{number_form, is_number}
use Rattle.holders.proofs.FormKinds.{text_has}
use Rattle.holders.proofs.RowsOfOperands.{ref_has}
use Rattle.holders.proofs.GivingLiterals.{TextForm, a_block, a_distinct}
use Rattle.holders.proofs.TakenRows.{each_shift, all_shift}

-- ---- distinct types are looked through

pub data Wraps : Form → Form → Type 0 where
  itself : {f : Form} → Wraps f f
  one_more_wrap : {f g : Form} → Wraps f g → Wraps (wrapped f) g

pub wrapped_has : {f g : Form} {world : World} {v : Value} {bs : List ℕ} → Wraps f g → Has world Constant g v bs → Has world Constant f v bs
wrapped_has itself h = h
wrapped_has (one_more_wrap w) h = of_wrapped (wrapped_has w h)

wrapped_blocks : {f g : Form} → Wraps f g → HasBlocksAlone f → HasBlocksAlone g
wrapped_blocks itself b = b
wrapped_blocks (one_more_wrap w) b = wrapped_blocks w b

pub record Beneath (facts : Facts) (n : ℕ) (ty : Ty) (f : Form) : Type 0 where
  pub of : Ty
  pub is : below_distinct n facts ty ≡ of
  pub form : Form
  pub has : HasForm facts of form
  pub wraps : Wraps f form

-- what a distinct type is of
record BaseForm (facts : Facts) (t : Ty) (f : Form) : Type 0 where
  form : Form
  has : HasForm facts t form
  is : f ≡ wrapped form

distinct_step : {facts : Facts} {key : Key} {t : Ty} {f : Form} → HasForm facts (distinct key) f → base_in (fact_of facts (distinct key)) ≡ Some t →
    BaseForm facts t f
distinct_step {facts} {t = t} (of_distinct {t = u} {f = g} q h) e =
    record { form = g; has = subst (λ s. HasForm facts s g) (same_Some u t (sym (ap base_in q) ∙ e)) h; is = refl }

number_kind : (k : TypeKind) (z : _) → is_among k z ≡ true → is_number k ≡ true
number_kind kind.int z e = refl
number_kind kind.bool z e = refl
number_kind kind.char z e = refl
number_kind (kind.enum n) z e = refl
number_kind kind.text z e = absurd (false≢true e)
number_kind (kind.sequence t) z e = absurd (false≢true e)
number_kind (kind.array n t) z e = absurd (false≢true e)
number_kind (kind.tuple ts) z e = absurd (false≢true e)
number_kind (kind.object r ts) z e = absurd (false≢true e)
number_kind (kind.distinct t) z e = absurd (false≢true e)
number_kind (kind.ref t) z e = absurd (false≢true e)
number_kind kind.exception z e = absurd (false≢true e)
number_kind kind.parameter z e = absurd (false≢true e)
number_kind kind.other z e = absurd (false≢true e)

literal_count : (all : Literals) → count (literal_values all) ≡ count_literals all
literal_count NoLiteral = refl
literal_count (ALiteral first rest) = ap suc (literal_count rest)

module _ (facts : Facts) (sorted : FactsOfTheirSort facts) where
  pub beneath : (n : ℕ) (ty : Ty) (f : Form) → HasForm facts ty f → Beneath facts n ty f
  beneath zero ty f h = record { of = ty; is = refl; form = f; has = h; wraps = itself }
  beneath (suc n) ty f h = by (base_in (fact_of facts ty)) refl (λ t g k. beneath n t g k)
    where
      by : (o : Option Ty) → base_in (fact_of facts ty) ≡ o → ((t : Ty) (g : Form) → HasForm facts t g → Beneath facts n t g) → Beneath facts (suc n) ty f
      by None e rest = record { of = ty; is = ap (base_or (below_distinct n facts) ty) e; form = f; has = h; wraps = itself }
      by (Some t) e rest =
          let d = sorted.bases ty t e in
          let step = distinct_step (subst (λ u. HasForm facts u f) d.1 h) (subst (λ u. base_in (fact_of facts u) ≡ Some t) d.1 e) in
          let b = rest t step.form step.has in
          record {
            of = b.of;
            is = ap (base_or (below_distinct n facts) ty) e ∙ b.is;
            form = b.form;
            has = b.has;
            wraps = subst (λ g. Wraps g b.form) (sym step.is) (one_more_wrap b.wraps);
          }

  abbrev Literal_has : Form → Literal → Type 0
  Literal_has f literal = (world : World) → Has world Constant f (literal_value literal) []

  no_parts_here : {A : Type 0} (x : Option Fact) (n : ℕ) (b : Bool) → ((all : List Field) (own : Bool) → x ≡ Some (fields all own) → ⊥) →
      has_parts (declared_kind x) n && b ≡ true → A
  no_parts_here None n b k e = absurd (false≢true e)
  no_parts_here (Some (members names)) n b k e = absurd (false≢true e)
  no_parts_here (Some (fields all own)) n b k e = absurd (k all own refl)
  no_parts_here (Some (base t)) n b k e = absurd (false≢true e)
  no_parts_here (Some (below p)) n b k e = absurd (false≢true e)

  no_sequence_here : {A : Type 0} (x : Option Fact) (a b : Bool) → (is_sequence (declared_kind x) && a) && b ≡ true → A
  no_sequence_here None a b e = absurd (false≢true e)
  no_sequence_here (Some (members names)) a b e = absurd (false≢true e)
  no_sequence_here (Some (fields all own)) a b e = absurd (false≢true e)
  no_sequence_here (Some (base t)) a b e = absurd (false≢true e)
  no_sequence_here (Some (below p)) a b e = absurd (false≢true e)

  -- what is said of the elements of a literal, and of its parts
  abbrev EachHas : Literals → Type 0
  EachHas all = (k : TypeKind) (t : Ty) (f : Form) → HasForm facts t f → HasBlocksAlone f → ((i : ℕ) → part_at k i ≡ Some t) → (i : ℕ) →
      are_constants facts k i all ≡ true → (world : World) → HasEach world Constant f (count (literal_values all)) 0 (literal_values all) []

  abbrev AllHave : Literals → Type 0
  AllHave all = (k : TypeKind) (ts : Tys) (fs : Forms) → AreForms true facts ts fs → HaveBlocksAlone fs → (i : ℕ) →
      ((j : ℕ) → part_at k (i + j) ≡ nth_type ts j) → count_types ts ≡ count_literals all → are_constants facts k i all ≡ true → (world : World) →
      HasAll world Constant fs 0 (literal_values all) []

  parts_have : (all : Literals) → EachHas all → AllHave all → {ty : Ty} {f : Form} → HasForm facts ty f → HasBlocksAlone f →
      has_parts (kind_of facts ty) (count_literals all) && are_constants facts (kind_of facts ty) 0 all ≡ true → (world : World) →
      Has world Constant f (Parts (literal_values all)) []
  parts_have all each every of_int blocks e world = absurd (false≢true e)
  parts_have all each every of_bool blocks e world = absurd (false≢true e)
  parts_have all each every of_char blocks e world = absurd (false≢true e)
  parts_have all each every of_text blocks e world = absurd (false≢true e)
  parts_have all each every (of_sequence q h) blocks e world = absurd (false≢true e)
  parts_have all each every (of_any_sequence q) blocks e world = absurd (false≢true e)
  parts_have all each every (of_array {n = n} {t = t} {f = f} h) blocks e world =
      let p = and_parts (nat_eq n (count_literals all)) (are_constants facts (kind.array n t) 0 all) e in
      let counted = literal_count all ∙ sym (eqb-true n (count_literals all) p.0) in
      a_row counted (subst (λ m. HasEach world Constant f m 0 (literal_values all) []) counted (each (kind.array n t) t f h blocks (λ i. refl) 0 p.1 world))
  parts_have all each every (of_tuple {ts = ts} {fs = fs} h) blocks e world =
      let p = and_parts (nat_eq (count_types ts) (count_literals all)) (are_constants facts (kind.tuple ts) 0 all) e in
      some_parts (every (kind.tuple ts) ts fs h blocks 0 (λ j. ap (nth_type ts) (omega arith)) (eqb-true (count_types ts) (count_literals all) p.0) p.1 world)
  parts_have all each every of_parameter blocks e world = absurd (false≢true e)
  parts_have all each every (of_enum {key = key}) blocks e world =
      no_parts_here (fact_of facts (enum key)) (count_literals all) (are_constants facts (kind_of facts (enum key)) 0 all)
      (λ these own q. false≢true (sorted.objects (enum key) these own q)) e
  parts_have all each every (of_object {own_hooks = true} q h) blocks e world = absurd blocks
  parts_have all each every (of_object {key = key} {arguments = arguments} {all = these} {own_hooks = false} {fs = fs} q h) blocks e world =
      let ts = types_of these in
      let e' = subst (λ x. has_parts (declared_kind x) (count_literals all) && are_constants facts (declared_kind x) 0 all ≡ true) q e in
      let p = and_parts (nat_eq (count_types ts) (count_literals all)) (are_constants facts (kind.object false ts) 0 all) e' in
      some_parts (every (kind.object false ts) ts fs h blocks 0 (λ j. ap (nth_type ts) (omega arith)) (eqb-true (count_types ts) (count_literals all) p.0)
      p.1 world)
  parts_have all each every (of_distinct {key = key} q h) blocks e world =
      absurd (false≢true (subst (λ x. has_parts (declared_kind x) (count_literals all) && are_constants facts (declared_kind x) 0 all ≡ true) q e))
  parts_have all each every of_ref blocks e world = absurd blocks
  parts_have all each every (of_exception {key = key}) blocks e world =
      no_parts_here (fact_of facts (exception key)) (count_literals all) (are_constants facts (kind_of facts (exception key)) 0 all)
      (λ these own q. false≢true (sorted.objects (exception key) these own q)) e

  elements_have : (all : Literals) → EachHas all → {ty : Ty} {f : Form} → HasForm facts ty f → HasBlocksAlone f →
      (is_sequence (kind_of facts ty) && fits (pos (count_literals all))) && are_constants facts (kind_of facts ty) 0 all ≡ true →
      (world : World) → Has world Constant f (Parts (literal_values all)) []
  elements_have all each of_int blocks e world = absurd (false≢true e)
  elements_have all each of_bool blocks e world = absurd (false≢true e)
  elements_have all each of_char blocks e world = absurd (false≢true e)
  elements_have all each of_text blocks e world = absurd (false≢true e)
  elements_have all each (of_sequence {t = t} {f = f} q h) blocks e world =
      let p = and_parts (true && fits (pos (count_literals all))) (are_constants facts (kind.sequence t) 0 all) e in
      constant_sequence (each (kind.sequence t) t f h blocks (λ i. refl) 0 p.1 world)
  elements_have all each (of_any_sequence q) blocks e world = absurd (false≢true (sym q))
  elements_have all each (of_array h) blocks e world = absurd (false≢true e)
  elements_have all each (of_tuple h) blocks e world = absurd (false≢true e)
  elements_have all each of_parameter blocks e world = absurd (false≢true e)
  elements_have all each (of_enum {key = key}) blocks e world = no_sequence_here (fact_of facts (enum key)) (fits (pos (count_literals all)))
      (are_constants facts (kind_of facts (enum key)) 0 all) e
  elements_have all each (of_object {key = key} {arguments = arguments} q h) blocks e world =
      no_sequence_here (fact_of facts (object key arguments)) (fits (pos (count_literals all)))
      (are_constants facts (kind_of facts (object key arguments)) 0 all) e
  elements_have all each (of_distinct {key = key} q h) blocks e world = no_sequence_here (fact_of facts (distinct key)) (fits (pos (count_literals all)))
      (are_constants facts (kind_of facts (distinct key)) 0 all) e
  elements_have all each of_ref blocks e world = absurd blocks
  elements_have all each (of_exception {key = key}) blocks e world = no_sequence_here (fact_of facts (exception key)) (fits (pos (count_literals all)))
      (are_constants facts (kind_of facts (exception key)) 0 all) e

  mutual
    pub literal_has : (literal : Literal) {ty : Ty} {f : Form} → HasForm facts ty f → HasBlocksAlone f → is_constant facts ty literal ≡ true →
        Literal_has f literal
    literal_has (Number z) {ty} {f} h blocks e world =
        let b = beneath (length facts) ty f h in
        let k = number_kind (plain_kind facts ty) z (and_parts (fits z) (is_among (plain_kind facts ty) z) e).1 in
        let p = number_form b.has (subst (λ u. is_number (kind_of facts u) ≡ true) b.is k) in
        wrapped_has b.wraps (subst (λ g. Has world Constant g (literal_value (Number z)) []) (sym p) a_number)
    literal_has (Characters t) {ty} {f} h blocks e world =
        let b = beneath (length facts) ty f h in
        let p = text_has b.has (subst (λ u. is_text (kind_of facts u) ≡ true) b.is e) in
        wrapped_has b.wraps (subst (λ g. Has world Constant g (Fixed t) []) (sym p) constant_text)
    literal_has NoObject {ty} {f} h blocks e world =
        let b = beneath (length facts) ty f h in
        absurd (ref_has b.has (wrapped_blocks b.wraps blocks) (subst (λ u. is_ref (kind_of facts u) ≡ true) b.is e))
    literal_has (PartsOf all) {ty} {f} h blocks e world =
        let b = beneath (length facts) ty f h in
        wrapped_has b.wraps (parts_have all (each_have all) (all_have all) b.has (wrapped_blocks b.wraps blocks)
        (subst (λ u. has_parts (kind_of facts u) (count_literals all) && are_constants facts (kind_of facts u) 0 all ≡ true) b.is e) world)
    literal_has (ElementsOf all) {ty} {f} h blocks e world =
        let b = beneath (length facts) ty f h in
        wrapped_has b.wraps (elements_have all (each_have all) b.has (wrapped_blocks b.wraps blocks)
        (subst (λ u. (is_sequence (kind_of facts u) && fits (pos (count_literals all))) && are_constants facts (kind_of facts u) 0 all ≡ true)
        b.is e) world)

    each_have : (all : Literals) → EachHas all
    each_have NoLiteral k t f h blocks same i e world = none_more
    each_have (ALiteral first rest) k t f h blocks same i e world =
        let p = and_parts (for_some (part_at k i) (λ ty. is_constant facts ty first)) (are_constants facts k (suc i) rest) e in
        one_more {bs = []} {cs = []} (omega arith)
        (literal_has first h blocks (subst (λ o. for_some o (λ ty. is_constant facts ty first) ≡ true) (same i) p.0) world)
        (each_shift (literal_value first) (each_have rest k t f h blocks same (suc i) p.1 world))

    all_have : (all : Literals) → AllHave all
    all_have NoLiteral k ts fs none_of blocks i at c e world = no_parts refl
    all_have NoLiteral k ts fs (more_of h more) blocks i at c e world = absurd (omega (arith, c))
    all_have (ALiteral first rest) k ts fs none_of blocks i at c e world = absurd (omega (arith, c))
    all_have (ALiteral first rest) k _ _ (more_of {t = t} {ts = ts} {fs = fs} h more) blocks i at c e world =
        let p = and_parts (for_some (part_at k i) (λ ty. is_constant facts ty first)) (are_constants facts k (suc i) rest) e in
        a_part {bs = []} {cs = []} (omega arith)
        (literal_has first h blocks.0 (subst (λ o. for_some o (λ ty. is_constant facts ty first) ≡ true) (ap (part_at k) (omega arith) ∙ at 0) p.0) world)
        (all_shift (literal_value first) (all_have rest k ts fs more blocks.1 (suc i) (λ j. ap (part_at k) (omega arith) ∙ at (suc j)) (omega (arith, c))
        p.1 world))

  -- a literal text is of a text, or of a type that is distinct from one
  like_text : {f g : Form} → Wraps f g → g ≡ block → TextForm f
  like_text (itself {f = f}) e = subst TextForm (sym e) a_block
  like_text (one_more_wrap w) e = a_distinct (like_text w e)

  pub literal_text : (t : List ℕ) {ty : Ty} {f : Form} → HasForm facts ty f → is_constant facts ty (Characters t) ≡ true → TextForm f
  literal_text t {ty} {f} h e =
      let b = beneath (length facts) ty f h in
      like_text b.wraps (text_has b.has (subst (λ u. is_text (kind_of facts u) ≡ true) b.is e))
