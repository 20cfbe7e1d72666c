-- An object that gets the types of its fields.
use Rattle.std.proofs.Common.{◌≡◌, ℕ, zero, suc, List, [], ◌∷◌, ◌++◌, length, take, refl, sym, ap, ◌∙◌, Some, None, subst, arith, ⊎_elim, append-nil}
use Rattle.std.specs.Prelude.{Bool, Option, slice_get, slice_set, cond}
use Rattle.std.proofs.lemmas.Option.{none-some, same_Some}
use Rattle.std.proofs.lemmas.Bool.{cases_eq}
use Rattle.std.proofs.Math.Dec.{eqb-suc-zero}
use Rattle.arc_base.specs.declared.place.Place.{Place}
use Rattle.nim_types.specs.declared.types.FieldName.{FieldName}
use Rattle.nim_types.specs.declared.types.TypeDef.{TypeDef}
use Rattle.nim_types.specs.declared.types.TypeDef.TheVariants as D
use Rattle.nim_types.specs.declared.storage.Storage.{Storage}
use Rattle.nim_types.specs.Types.{Ty, Fact}
use Rattle.nim_types.specs.Table.{types_in, types_onto, meant, said_of, AllBelow, IsWithin, parts_of, WithinOnto, OneNumber, IsTable}
use Rattle.nim_types.specs.Table.{MayComplete, with_parts, completed, Grows}
use Rattle.nim_types.specs.Kept.{at_number, slot, Reach, Chained, parts_in, storage_in, Settled, Waits, Stale, IsKept}
use Rattle.nim_types.proofs.Numbering.{grows_by}

pub set_completed : (ds : List TypeDef) (i : ℕ) (d e : TypeDef) (given : List ℕ) → slice_get ds i ≡ Some d → e ≡ with_parts given d →
    slice_set ds i e ≡ completed ds i given
set_completed [] i d e given h is = absurd (none-some d h)
set_completed (x ∷ ds) zero d e given h is = ap (λ z. z ∷ ds) (is ∙ ap (with_parts given) (sym (same_Some x d h)))
set_completed (x ∷ ds) (suc i) d e given h is = ap (λ z. x ∷ z) (set_completed ds i d e given h is)

completed_same : (ds : List TypeDef) (i : ℕ) (d : TypeDef) (given : List ℕ) → slice_get ds i ≡ Some d →
    slice_get (completed ds i given) i ≡ Some (with_parts given d)
completed_same [] i d given h = absurd (none-some d h)
completed_same (x ∷ ds) zero d given h = ap (λ z. Some (with_parts given z)) (same_Some x d h)
completed_same (x ∷ ds) (suc i) d given h = completed_same ds i d given h

completed_other : (ds : List TypeDef) (i j : ℕ) (given : List ℕ) → (j ≡ i → ⊥) → slice_get (completed ds i given) j ≡ slice_get ds j
completed_other [] i j given n = refl
completed_other (x ∷ ds) zero zero given n = absurd (n refl)
completed_other (x ∷ ds) zero (suc j) given n = refl
completed_other (x ∷ ds) (suc i) zero given n = refl
completed_other (x ∷ ds) (suc i) (suc j) given n = completed_other ds i j given (λ e. n (ap suc e))

pub completed_length : (ds : List TypeDef) (i : ℕ) (given : List ℕ) → length (completed ds i given) ≡ length ds
completed_length [] i given = refl
completed_length (x ∷ ds) zero given = refl
completed_length (x ∷ ds) (suc i) given = ap suc (completed_length ds i given)

-- what an entry after it was
was : (ds : List TypeDef) (i j : ℕ) (given : List ℕ) (d e : TypeDef) (P : TypeDef → Type 0) → slice_get ds i ≡ Some d →
    slice_get (completed ds i given) j ≡ Some e
    → (j ≡ i → P (with_parts given d)) → ((j ≡ i → ⊥) → slice_get ds j ≡ Some e → P e) → P e
was ds i j given d e P at h here there = ⊎_elim
    (λ eq. let is : with_parts given d ≡
    e = same_Some (with_parts given d) e (sym (completed_same ds i d given at) ∙ ap (slice_get (completed ds i given)) (sym eq) ∙ h) in
    subst P is (here eq))
    (λ n. there n (sym (completed_other ds i j given n) ∙ h))
    (cases_eq j i)

meant_with : (ts : List Ty) (d : TypeDef) (given : List ℕ) → meant ts (with_parts given d) ≡ meant ts d
meant_with ts (D.Object name at is all b parts) given = refl
meant_with ts D.Int given = refl
meant_with ts D.Bool given = refl
meant_with ts D.Char given = refl
meant_with ts D.Text given = refl
meant_with ts (D.Seq i) given = refl
meant_with ts (D.Param n) given = refl
meant_with ts (D.Enum name at all) given = refl
meant_with ts (D.Array n i) given = refl
meant_with ts (D.Tuple names is) given = refl
meant_with ts (D.Distinct name at i) given = refl
meant_with ts (D.Ref name i) given = refl
meant_with ts (D.Exception name at parent) given = refl

types_completed_onto : (done : List Ty) (ds : List TypeDef) (i : ℕ) (given : List ℕ) → types_onto done (completed ds i given) ≡ types_onto done ds
types_completed_onto done [] i given = refl
types_completed_onto done (d ∷ ds) zero given = ap (λ z. types_onto (done ++ z ∷ []) ds) (meant_with done d given)
types_completed_onto done (d ∷ ds) (suc i) given = types_completed_onto (done ++ meant done d ∷ []) ds i given

pub types_completed : (ds : List TypeDef) (i : ℕ) (given : List ℕ) → types_in (completed ds i given) ≡ types_in ds
types_completed ds i given = types_completed_onto [] ds i given

-- what may be completed is an object without fields, which stays, or one with fields
due_cases : (P : TypeDef → TypeDef → Type 0) (d : TypeDef) (given : List ℕ) → MayComplete (Some d) given
    → ((name : List ℕ) (at : Place) (is : List ℕ) (b : Bool) → P (D.Object name at is [] b []) (D.Object name at is [] b []))
    → ((name : List ℕ) (at : Place) (is : List ℕ) (f : FieldName) (fs : List FieldName) (b : Bool) (js : List ℕ)
    → P (D.Object name at is (f ∷ fs) b []) (D.Object name at is (f ∷ fs) b js))
    → P d (with_parts given d)
due_cases P (D.Object name at is [] b []) [] m empty some = empty name at is b
due_cases P (D.Object name at is [] b []) (j ∷ js) m empty some = absurd (omega (arith, m.1))
due_cases P (D.Object name at is (f ∷ fs) b []) given m empty some = some name at is f fs b given
due_cases P (D.Object name at is all b (p ∷ ps)) given m empty some = absurd (omega (arith, ap length m.0))
due_cases P D.Int given m empty some = absurd m
due_cases P D.Bool given m empty some = absurd m
due_cases P D.Char given m empty some = absurd m
due_cases P D.Text given m empty some = absurd m
due_cases P (D.Seq i) given m empty some = absurd m
due_cases P (D.Param n) given m empty some = absurd m
due_cases P (D.Enum name at all) given m empty some = absurd m
due_cases P (D.Array n i) given m empty some = absurd m
due_cases P (D.Tuple names is) given m empty some = absurd m
due_cases P (D.Distinct name at i) given m empty some = absurd m
due_cases P (D.Ref name i) given m empty some = absurd m
due_cases P (D.Exception name at parent) given m empty some = absurd m

pub said_with : (ts : List Ty) (d : TypeDef) (given : List ℕ) (x : Fact) → MayComplete (Some d) given → said_of ts d ≡ Some x →
    said_of ts (with_parts given d) ≡ Some x
said_with ts d given x m = due_cases (λ a b. said_of ts a ≡ Some x → said_of ts b ≡ Some x) d given m
    (λ name at is b h. h) (λ name at is f fs b js h. absurd (none-some x h))

pub storage_with : (known : List (Option Storage)) (d : TypeDef) (given : List ℕ) (s : Storage) → MayComplete (Some d) given → storage_in known d ≡ Some s
    → storage_in known (with_parts given d) ≡ Some s
storage_with known d given s m = due_cases (λ a b. storage_in known a ≡ Some s → storage_in known b ≡ Some s) d given m
    (λ name at is b h. h)
    (λ name at is f fs b js h. absurd (none-some s (sym (ap (λ t. cond t (parts_in known b []) None) (eqb-suc-zero (length fs))) ∙ h)))

parts_with : (n : ℕ) (d : TypeDef) (given : List ℕ) → AllBelow n given → AllBelow n (parts_of d) → AllBelow n (parts_of (with_parts given d))
parts_with n (D.Object name at is all b parts) given g h = g
parts_with n D.Int given g h = h
parts_with n D.Bool given g h = h
parts_with n D.Char given g h = h
parts_with n D.Text given g h = h
parts_with n (D.Seq i) given g h = h
parts_with n (D.Param k) given g h = h
parts_with n (D.Enum name at all) given g h = h
parts_with n (D.Array k i) given g h = h
parts_with n (D.Tuple names is) given g h = h
parts_with n (D.Distinct name at i) given g h = h
parts_with n (D.Ref name i) given g h = h
parts_with n (D.Exception name at parent) given g h = h

within_with : (n : ℕ) (d : TypeDef) (given : List ℕ) → IsWithin n d → IsWithin n (with_parts given d)
within_with n (D.Object name at is all b parts) given h = h
within_with n D.Int given h = h
within_with n D.Bool given h = h
within_with n D.Char given h = h
within_with n D.Text given h = h
within_with n (D.Seq i) given h = h
within_with n (D.Param k) given h = h
within_with n (D.Enum name at all) given h = h
within_with n (D.Array k i) given h = h
within_with n (D.Tuple names is) given h = h
within_with n (D.Distinct name at i) given h = h
within_with n (D.Ref name i) given h = h
within_with n (D.Exception name at parent) given h = h

slot_with : (d : TypeDef) (given : List ℕ) → slot (with_parts given d) ≡ slot d
slot_with (D.Object name at is all b parts) given = refl
slot_with D.Int given = refl
slot_with D.Bool given = refl
slot_with D.Char given = refl
slot_with D.Text given = refl
slot_with (D.Seq i) given = refl
slot_with (D.Param k) given = refl
slot_with (D.Enum name at all) given = refl
slot_with (D.Array k i) given = refl
slot_with (D.Tuple names is) given = refl
slot_with (D.Distinct name at i) given = refl
slot_with (D.Ref name i) given = refl
slot_with (D.Exception name at parent) given = refl

within_completed : (n : ℕ) (ds : List TypeDef) (i : ℕ) (given : List ℕ) → WithinOnto n ds → WithinOnto n (completed ds i given)
within_completed n [] i given h = tt
within_completed n (d ∷ ds) zero given h = (within_with n d given h.0, h.1)
within_completed n (d ∷ ds) (suc i) given h = (h.0, within_completed (suc n) ds i given h.1)

module _ (ds : List TypeDef) (i : ℕ) (d : TypeDef) (given : List ℕ) (at : slice_get ds i ≡ Some d) where
  table_completed : IsTable ds → AllBelow (length ds) given → IsTable (completed ds i given)
  table_completed t g =
      let n : length ds ≡ length (completed ds i given) = sym (completed_length ds i given) in
      record {
        within = within_completed 0 ds i given t.within;
        parts = λ j e h. subst (λ (m : ℕ). AllBelow m (parts_of e)) n
            (was ds i j given d e (λ (z : TypeDef). AllBelow (length ds) (parts_of z)) at h
            (λ eq. parts_with (length ds) d given g (t.parts i d at)) (λ ne p. t.parts j e p));
        one = subst OneNumber (sym (types_completed ds i given)) t.one;
        small = omega (arith, n, t.small);
      }

  chained_completed : (heads nexts : List (Option ℕ)) → Chained ds heads nexts → Chained (completed ds i given) heads nexts
  chained_completed heads nexts c =
      let n : length (completed ds i given) ≡ length ds = completed_length ds i given in
      record {
        beside = c.beside ∙ sym n;
        heads_within = λ h j e. omega (arith, c.heads_within h j e, n);
        falls = c.falls;
        all = λ j e h. was ds i j given d e (λ (z : TypeDef). Reach nexts (at_number heads (slot z)) j) at h
            (λ eq. subst (λ (s : ℕ). Reach nexts (at_number heads s) j) (sym (slot_with d given))
            (subst (λ (k : ℕ). Reach nexts (at_number heads (slot d)) k) (sym eq) (c.all i d at)))
            (λ ne p. c.all j e p);
      }

  stale_completed : (known : List (Option Storage)) (waiting : Bool) → MayComplete (Some d) given → Settled ds known → Waits waiting ds known
      → Stale (completed ds i given) i known waiting
  stale_completed known waiting m s w = record {
    half = record {
      beside = s.beside ∙ sym (completed_length ds i given);
      right = λ j e x h q. was ds i j given d e (λ (z : TypeDef). storage_in known z ≡ Some x) at h
          (λ eq. storage_with known d given x m (sym (s.right i d at) ∙ ap (at_number known) (sym eq) ∙ q))
          (λ ne p. sym (s.right j e p) ∙ q);
    };
    others = λ j e ne h q. sym (s.right j e (sym (completed_other ds i j given ne) ∙ h)) ∙ q;
    waits = λ off j e ne h q. w off j e (sym (completed_other ds i j given ne) ∙ h) q;
  }

  grows_completed : IsTable ds → AllBelow (length ds) given → MayComplete (Some d) given → Grows ds (completed ds i given)
  grows_completed t g m =
      let ts = types_in (completed ds i given) in
      let same : ts ≡ types_in ds = types_completed ds i given in
      grows_by ds (completed ds i given) [] t (table_completed t g) (same ∙ sym (append-nil (types_in ds)))
      (λ j e x h s. ⊎_elim
      (λ eq. let de : d ≡ e = same_Some d e (sym at ∙ ap (slice_get ds) (sym eq) ∙ h) in
      record {
        d = with_parts given d;
        at = ap (slice_get (completed ds i given)) eq ∙ completed_same ds i d given at;
        says = ap (λ z. said_of z (with_parts given d)) same ∙ said_with (types_in ds) d given x m (ap (said_of (types_in ds)) de ∙ s);
      })
      (λ ne. record { d = e; at = completed_other ds i j given ne ∙ h; says = ap (λ z. said_of z e) same ∙ s })
      (cases_eq j i))

-- the entry that may be completed
pub record Ready (o : Option TypeDef) (given : List ℕ) : Type 0 where
  pub d : TypeDef
  pub is : o ≡ Some d
  pub may : MayComplete (Some d) given

pub ready : (o : Option TypeDef) (given : List ℕ) → MayComplete o given → Ready o given
ready None given m = absurd m
ready (Some d) given m = record { d = d; is = refl; may = m }

pub stale_by : (ds new : List TypeDef) (i : ℕ) (given : List ℕ) (known : List (Option Storage)) (waiting : Bool) → MayComplete (slice_get ds i) given →
    Settled ds known
    → Waits waiting ds known → new ≡ completed ds i given → Stale new i known waiting
stale_by ds new i given known waiting m s w e =
    let r = ready (slice_get ds i) given m in
    subst (λ (z : List TypeDef). Stale z i known waiting) (sym e) (stale_completed ds i r.d given r.is known waiting r.may s w)

pub kept_completed : (ds new : List TypeDef) (i : ℕ) (given : List ℕ) (heads nexts : List (Option ℕ)) (old known : List (Option Storage)) (was now : Bool)
    → IsKept ds heads nexts old was → MayComplete (slice_get ds i) given → AllBelow (length ds) given → new ≡ completed ds i given → Settled new known →
    Waits now new known
    → IsKept new heads nexts known now
kept_completed ds new i given heads nexts old known was now k m g e s w =
    let r = ready (slice_get ds i) given m in
    record {
      table = subst IsTable (sym e) (table_completed ds i r.d given r.is k.table g);
      chained = subst (λ (z : List TypeDef). Chained z heads nexts) (sym e) (chained_completed ds i r.d given r.is heads nexts k.chained);
      settled = s;
      waits = w;
    }

pub grows_by_parts : (ds old new : List TypeDef) (i : ℕ) (given : List ℕ) → ds ≡ old → IsTable ds → MayComplete (slice_get ds i) given →
    AllBelow (length ds) given
    → new ≡ completed ds i given → Grows old new
grows_by_parts ds old new i given a t m g e =
    let r = ready (slice_get ds i) given m in
    subst (λ (z : List TypeDef). Grows z new) a (subst (λ (z : List TypeDef). Grows ds z) (sym e) (grows_completed ds i r.d given r.is t g r.may))

-- what is written through a reference to all of a vector
pub written : {X : Type 0} (n : ℕ) (xs ys : List X) → n ≡ length xs → take n (xs ++ ys) ≡ xs
written zero [] ys h = refl
written zero (x ∷ xs) ys h = absurd (omega (arith, h))
written (suc n) [] ys h = absurd (omega (arith, h))
written (suc n) (x ∷ xs) ys h = ap (λ z. x ∷ z) (written n xs ys (omega (arith, h)))
