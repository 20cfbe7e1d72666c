-- Tables with one declared type more.
use Rattle.std.proofs.Common.{◌≡◌, ℕ, suc, ◌<◌, List, [], ◌∷◌, ◌++◌, length, Some, None, refl, sym, ap, ap₂, ◌∙◌, subst}
use Rattle.std.proofs.Common.{arith}
use Rattle.std.proofs.Common.{⊎_elim, length-append, append-nil, append_assoc}
use Rattle.std.specs.Prelude.{slice_get, Option, Bool, true}
use Rattle.std.proofs.lemmas.Bool.{cases_lt}
use Rattle.nim_types.specs.declared.types.TypeDef.{TypeDef}
use Rattle.nim_types.specs.Types.{Ty, Fact, Facts}
use Rattle.nim_types.specs.Forms.{Form, IsForm, HasForm}
use Rattle.nim_types.specs.Table.{type_at, types_in, facts_in, facts_over, and_said, meant, said_of, parts_of, IsTable, IsWithin, AllBelow}
use Rattle.nim_types.proofs.ForCallers.{count, meant_front, said_front, entry_inside, one_more, all_more, get_front, front}
use Rattle.expr_parts.specs.declared.scope.Kinds.{Kinds}
use Rattle.expr_parts.specs.View.{Under, KindsIn, AllFormed, Grown}
use Rattle.decl_types.specs.ViewKnown.{Kept, Declares}

-- ---- what only adds types that are made of others

pub kept_grown : (a b : List TypeDef) → Grown a b → Kept a b
kept_grown a b g = record {
  length = g.length;
  under = λ ts facts u. let v = g.under ts facts u in subst (Under a ts) v.said v;
  facts = λ ts facts u. ([], (g.under ts facts u).said ∙ sym (append-nil (facts_in a)));
  kinds = g.kinds;
  formed = g.formed;
}

pub kept_on : (a b c : List TypeDef) → Kept a b → Kept b c → Kept a c
kept_on a b c g h = record {
  length = omega (arith, g.length, h.length);
  under = λ ts facts u. g.under ts (facts_in b) (h.under ts facts u);
  facts = λ ts facts u.
      let m = g.facts ts (facts_in b) (h.under ts facts u) in
      let n = h.facts ts facts u in
      (m.0 ++ n.0, n.1 ∙ ap (λ z. z ++ n.0) m.1 ∙ append_assoc (facts_in a) m.0 n.0);
  kinds = λ k i. h.kinds k (g.kinds k i);
  formed = λ f. h.formed (g.formed f);
}

-- ---- facts

abbrev AllInside : ℕ → List TypeDef → Type 0
AllInside n ds = (i : ℕ) (d : TypeDef) → slice_get ds i ≡ Some d → IsWithin n d × AllBelow n (parts_of d)

facts_more : (ts k : List Ty) (ds : List TypeDef) → AllInside (length ts) ds → facts_over (ts ++ k) ds ≡ facts_over ts ds
facts_more ts k [] h = refl
facts_more ts k (d ∷ ds) h =
    ap₂ (λ ty o. and_said ty o (facts_over (ts ++ k) ds)) (meant_front ts k d (h 0 d refl).0) (said_front ts k d (h 0 d refl).0 (h 0 d refl).1)
    ∙ ap (and_said (meant ts d) (said_of ts d)) (facts_more ts k ds (λ i e. h (suc i) e))

said_behind : (ty : Ty) (o : Option Fact) (a b : Facts) → and_said ty o (a ++ b) ≡ and_said ty o a ++ b
said_behind ty None a b = refl
said_behind ty (Some fact) a b = refl

facts_last : (ts : List Ty) (ds : List TypeDef) (d : TypeDef) → facts_over ts (ds ++ d ∷ []) ≡ facts_over ts ds ++ and_said (meant ts d) (said_of ts d) []
facts_last ts [] d = refl
facts_last ts (e ∷ ds) d =
    ap (and_said (meant ts e) (said_of ts e)) (facts_last ts ds d)
    ∙ said_behind (meant ts e) (said_of ts e) (facts_over ts ds) (and_said (meant ts d) (said_of ts d) [])

all_inside : (ds : List TypeDef) → IsTable ds → AllInside (length (types_in ds)) ds
all_inside ds t i d h =
    (entry_inside ds i d t h, all_more (length ds) (length (types_in ds)) (parts_of d) (omega (arith, count ds)) (t.parts i d h))

-- what is said of one type more
pub facts_declared : (old : List TypeDef) (d : TypeDef) → IsTable old → IsWithin (length (types_in old)) d → AllBelow (length (types_in old)) (parts_of d)
    → facts_in (old ++ d ∷ []) ≡ facts_in old ++ and_said (meant (types_in old) d) (said_of (types_in old) d) []
facts_declared old d t w p =
    let ts = types_in old in
    let k = meant ts d ∷ [] in
    ap (λ z. facts_over z (old ++ d ∷ [])) (one_more old d) ∙ facts_last (ts ++ k) old d
    ∙ ap₂ (λ fs gs. fs ++ gs) (facts_more ts k old (all_inside old t))
    (ap₂ (λ ty o. and_said ty o []) (meant_front ts k d w) (said_front ts k d w p))

-- ---- forms

abbrev pub FormsStay : List TypeDef → List TypeDef → Type 0
FormsStay old new = (whole : Bool) (ty : Ty) (f : Form) → IsForm whole (facts_in old) ty f → IsForm whole (facts_in new) ty f

last_of : (ts : List Ty) (t : Ty) → type_at (ts ++ t ∷ []) (length ts) ≡ t
last_of [] t = refl
last_of (u ∷ ts) t = last_of ts t

abbrev Formed : Facts → Ty → Type 0
Formed facts ty = (f : Form) × HasForm facts ty f

formed_more : (old : List TypeDef) (d : TypeDef) → FormsStay old (old ++ d ∷ []) → Formed (facts_in (old ++ d ∷ [])) (meant (types_in old) d)
    → AllFormed old → AllFormed (old ++ d ∷ [])
formed_more old d stay new h = λ i lt.
    let ts = types_in old in
    let all = types_in (old ++ d ∷ []) in
    let k = meant ts d ∷ [] in
    ⊎_elim
    (λ below.
    let e : type_at all i ≡ type_at ts i = ap (λ z. type_at z i) (one_more old d) ∙ front ts k i (omega (arith, below, count old)) in
    let f = h i below in
    subst (Formed (facts_in (old ++ d ∷ []))) (sym e) (f.0, stay true (type_at ts i) f.0 f.1))
    (λ above.
    let e : i ≡ length ts = omega (arith, lt, above, count old, length-append old (d ∷ [])) in
    subst (Formed (facts_in (old ++ d ∷ []))) (sym (ap₂ type_at (one_more old d) e ∙ last_of ts (meant ts d))) new)
    (cases_lt i (length old))

under_less : (old : List TypeDef) (d : TypeDef) (ts : List Ty) (facts : Facts) → IsTable old → Under (old ++ d ∷ []) ts facts → Under old ts
    (facts_in old)
under_less old d ts facts t u = record {
  table = t;
  more = meant (types_in old) d ∷ u.more;
  begins = u.begins ∙ ap (λ z. z ++ u.more) (one_more old d) ∙ append_assoc (types_in old) (meant (types_in old) d ∷ []) u.more;
  said = refl;
}

kinds_more : (old : List TypeDef) (d : TypeDef) (k : Kinds) → KindsIn old k → KindsIn (old ++ d ∷ []) k
kinds_more old d k h = record {
  int = get_front old (d ∷ []) k.int _ h.int;
  bool = get_front old (d ∷ []) k.bool _ h.bool;
  char = get_front old (d ∷ []) k.char _ h.char;
  text = get_front old (d ∷ []) k.text _ h.text;
}

pub kept_declared : (old new : List TypeDef) (d : TypeDef) (id : ℕ) → IsTable old → IsWithin (length (types_in old)) d
    → AllBelow (length (types_in old)) (parts_of d) → Declares old new d id → FormsStay old new
    → (AllFormed old → Formed (facts_in new) (meant (types_in old) d)) → Kept old new
kept_declared old new d id t w p h stay formed =
    subst (Kept old) (sym h.more)
    (record {
      length = omega (arith, length-append old (d ∷ []));
      under = λ ts facts u. under_less old d ts facts t u;
      facts = λ ts facts u. (and_said (meant (types_in old) d) (said_of (types_in old) d) [], u.said ∙ facts_declared old d t w p);
      kinds = kinds_more old d;
      formed = λ f. formed_more old d (subst (FormsStay old) h.more stay) (subst (λ z. Formed (facts_in z) (meant (types_in old) d)) h.more (formed f)) f;
    })

-- ---- the type of a declaration

pub type_front : (ts : List Ty) (old : List TypeDef) (facts : Facts) (i : ℕ) → Under old ts facts → i < length old → type_at ts i ≡ type_at
    (types_in old) i
type_front ts old facts i u h = ap (λ z. type_at z i) u.begins ∙ front (types_in old) u.more i (omega (arith, h, count old))

pub declared_type : (old new : List TypeDef) (d : TypeDef) (id : ℕ) (ts : List Ty) (facts : Facts) → Declares old new d id → Under new ts facts
    → type_at ts id ≡ meant (types_in old) d
declared_type old new d id ts facts h u =
    let l = ap length h.more in
    let inside : id < length new = omega (arith, h.next, l, length-append old (d ∷ [])) in
    type_front ts new facts id u inside ∙ ap₂ (λ ds i. type_at (types_in ds) i) h.more h.next
    ∙ ap₂ type_at (one_more old d) (sym (count old)) ∙ last_of (types_in old) (meant (types_in old) d)

pub declared_facts : (old new : List TypeDef) (d : TypeDef) (id : ℕ) (ts : List Ty) (facts : Facts) → IsTable old → IsWithin (length (types_in old)) d
    → AllBelow (length (types_in old)) (parts_of d) → Declares old new d id → Under new ts facts
    → facts ≡ facts_in old ++ and_said (meant (types_in old) d) (said_of (types_in old) d) []
declared_facts old new d id ts facts t w p h u = u.said ∙ ap facts_in h.more ∙ facts_declared old d t w p

pub under_declared : (old new : List TypeDef) (d : TypeDef) (id : ℕ) (ts : List Ty) (facts : Facts) → IsTable old → Declares old new d id
    → Under new ts facts
    → Under old ts (facts_in old)
under_declared old new d id ts facts t h u = under_less old d ts facts t (subst (λ ds. Under ds ts facts) h.more u)
