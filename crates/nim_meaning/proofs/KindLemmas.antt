-- Each declared place has a kind.
use Rattle.std.proofs.Common.{◌≡◌, refl, sym, subst, inl, inr, ◌∙◌, ap, nat_eq, ℕ, suc, Bool, false, if◌then◌else◌, List, [], ◌∷◌, ◌++◌, Option, Some, None}
use Rattle.std.proofs.lemmas.Bool.{eq-eqb, ne_eqb}
use Rattle.nim_program.specs.declared.program.Mode.{Mode}
use Rattle.nim_program.specs.Program.{Stmts, Declared, Param, Body}
use Rattle.nim_program.specs.Folds.{Seen, lists}
use Rattle.nim_program.specs.Folds.{if_declared, own_places, block_places, param_places, body_places}
use Rattle.nim_meaning.specs.Marks.{Member, Distinct, place_numbers}
use Rattle.nim_meaning.specs.PlaceKinds.{DeclaredAs, Kinded, numbers, if_kinded, all_kinded, place_of, own_kinds, block_kinds, param_kinds, body_kinds, kind_in}
use Rattle.nim_program.proofs.ForCallers.{Relates, related_of}

-- as many kinds as places, by the same numbers
abbrev Same : List Kinded → List Declared → Type 0
Same kinds places = numbers kinds ≡ place_numbers places

numbers_both : (xs ys : List Kinded) → numbers (xs ++ ys) ≡ numbers xs ++ numbers ys
numbers_both [] ys = refl
numbers_both (x ∷ xs) ys = ap (λ ns. x.place ∷ ns) (numbers_both xs ys)

places_both : (xs ys : List Declared) → place_numbers (xs ++ ys) ≡ place_numbers xs ++ place_numbers ys
places_both [] ys = refl
places_both (x ∷ xs) ys = ap (λ ns. x.number ∷ ns) (places_both xs ys)

same_both : (ks ls : List Kinded) (xs ys : List Declared) → Same ks xs → Same ls ys → Same (ks ++ ls) (xs ++ ys)
same_both ks ls xs ys h g =
    numbers_both ks ls ∙ ap (λ ns. ns ++ numbers ls) h ∙ ap (λ ns. place_numbers xs ++ ns) g ∙ sym (places_both xs ys)

if_same : (name : Option Declared) (kind : DeclaredAs) → Same (if_kinded name kind) (if_declared name)
if_same None kind = refl
if_same (Some place) kind = refl

all_same : (kind : Declared → DeclaredAs) (places : List Declared) → Same (all_kinded kind places) places
all_same kind [] = refl
all_same kind (place ∷ places) = ap (λ ns. place.number ∷ ns) (all_same kind places)

module _ (globals : List Declared) where
  own_same : (seen : Seen) → Same (own_kinds globals seen) (own_places seen)
  own_same seen = all_same (place_of globals seen.part) seen.places

  by_parts : Relates lists lists (own_kinds globals) own_places Same
  by_parts = record { none = refl; plus = λ x y u v h g. same_both x y u v h g; own = own_same }

  block_same : (b : Stmts) → Same (block_kinds globals b) (block_places b)
  block_same b = related_of lists lists (own_kinds globals) own_places Same by_parts b

  module _ (in_body : ℕ → ℕ → Mode) where
    params_same : (proc i : ℕ) (params : List Param) → Same (param_kinds globals in_body proc i params) (param_places params)
    params_same proc i [] = refl
    params_same proc i (param ∷ rest) = ap (λ ns. param.place.number ∷ ns) (params_same proc (suc i) rest)

    pub body_numbers : (proc : ℕ) (params : List Param) (body : Body) →
        numbers (body_kinds globals in_body proc params body) ≡ place_numbers (body_places params body)
    body_numbers proc params body =
        same_both (param_kinds globals in_body proc 0 params) (if_kinded body.result _ ++ block_kinds globals body.stmts) (param_places params)
        (if_declared body.result ++ block_places body.stmts) (params_same proc 0 params)
        (same_both (if_kinded body.result _) (block_kinds globals body.stmts) (if_declared body.result) (block_places body.stmts)
        (if_same body.result _) (block_same body.stmts))

-- ---- by number

is_place : (k : Kinded) (ks : List Kinded) → Member k ks → Member k.place (numbers ks)
is_place k (j ∷ ks) (inl h) = inl (ap (λ i. i.place) h)
is_place k (j ∷ ks) (inr h) = inr (is_place k ks h)
is_place k [] h = h

-- the first entry of a number, where another one is looked for behind it
behind : (j : Kinded) (ks : List Kinded) (n : ℕ) (kind : Option DeclaredAs) (b : Bool) → nat_eq j.place n ≡ b → b ≡ false → kind_in ks n ≡ kind →
    kind_in (j ∷ ks) n ≡ kind
behind j ks n kind b e h i = ap (λ c. if c then Some j.kind else kind_in ks n) (e ∙ h) ∙ i

pub kind_found : (ks : List Kinded) (k : Kinded) → Distinct (numbers ks) → Member k ks → kind_in ks k.place ≡ Some k.kind
kind_found [] k d h = absurd h
kind_found (j ∷ ks) k d (inl h) =
    subst (λ i. kind_in (j ∷ ks) i.place ≡ Some i.kind) (sym h) (ap (λ c. if c then Some j.kind else kind_in ks j.place) (eq-eqb j.place j.place refl))
kind_found (j ∷ ks) k d (inr h) = behind j ks k.place (Some k.kind) false
    (ne_eqb j.place k.place (λ e. d.0 (subst (λ n. Member n (numbers ks)) (sym e) (is_place k ks h)))) refl (kind_found ks k d.1 h)
