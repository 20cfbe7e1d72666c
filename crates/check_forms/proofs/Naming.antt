-- Names among others, and names that wait for their rule.
use Rattle.std.proofs.Common.{◌≡◌, ◌<◌, ◌+◌, ℕ, suc, Bool, true, false, List, [], ◌∷◌, ◌++◌, length, drop, get_or, drop-cons, add-one}
use Rattle.std.proofs.Common.{refl, sym, ap, ap₂, ◌∙◌}
use Rattle.std.specs.Prelude.{◌||◌, ◌&&◌, ◌==◌, not, codes}
use Rattle.std.proofs.lemmas.Cmp.{nat_list_eq_equiv}
use Rattle.indent_scanner.specs.Words.{normal, same, is_named}
use Rattle.nim_types.specs.Types.{same_text}
use Rattle.expr_rules.specs.Constructions.{is_among}
use Rattle.decl_rules.specs.LeftOut.{waits, waiting, without}
use Rattle.check_forms.specs.declared.names.Waiting.{Waiting}
use Rattle.check_forms.specs.Waiting.{if_waiting, names_in}

or_assoc : (a b c : Bool) → ((a || b) || c) ≡ (a || (b || c))
or_assoc true b c = refl
or_assoc false b c = refl

or_false : (a : Bool) → (a || false) ≡ a
or_false true = refl
or_false false = refl

pub among_append : (x : List ℕ) (some more : List (List ℕ)) → is_among x (some ++ more) ≡ (is_among x some || is_among x more)
among_append x [] more = refl
among_append x (y ∷ some) more =
    ap (λ b. same_text x y || b) (among_append x some more) ∙ sym (or_assoc (same_text x y) (is_among x some) (is_among x more))

-- those of the first of several, before those of the rest
pub among_first : (x : List ℕ) (some more : List (List ℕ)) (b : Bool) → is_among x some ≡ b → is_among x (some ++ more) ≡ (b || is_among x more)
among_first x some more b e = among_append x some more ∙ ap (λ c. c || is_among x more) e

pub next_item : {A : Type 0} (xs : List A) (i : ℕ) (x : A) → x ≡ get_or xs i x → i < length xs → drop i xs ≡ x ∷ drop (i + 1) xs
next_item xs i x e h = rw add-one (drop-cons xs i x h ∙ ap (λ y. y ∷ drop (suc i) xs) (sym e))

-- ---- equal names

same_is : (a b : List ℕ) → same a b ≡ same_text a b
same_is [] [] = refl
same_is [] (y ∷ b) = refl
same_is (x ∷ a) [] = refl
same_is (x ∷ a) (y ∷ b) = ap (λ c. x == y && c) (same_is a b)

pub named_is : (x k : List ℕ) → is_named x k ≡ same_text (normal x) k
unfolding is_named
named_is x k = same_is (normal x) k

pub named_back : (x k : List ℕ) → is_named x k ≡ same_text k (normal x)
named_back x k = named_is x k ∙ nat_list_eq_equiv.symm (normal x) k

pub among_one : (x k : List ℕ) → is_among k (normal x ∷ []) ≡ is_named x k
among_one x k = or_false (same_text k (normal x)) ∙ sym (named_back x k)

-- ---- names that wait

if_among : (x k : List ℕ) (b : Bool) (rest : List (List ℕ))
    → is_among (normal x) (if_waiting b k rest) ≡ ((b && is_named x k) || is_among (normal x) rest)
if_among x k true rest = ap (λ c. c || is_among (normal x) rest) (sym (named_is x k))
if_among x k false rest = refl

pub waits_by : (w : Waiting) (x : List ℕ) → waits (names_in w) x
    ≡ ((w.is_nil && is_named x (codes "isnil")) || (w.new_exception && is_named x (codes "newexception")))
waits_by w x =
    let last = if_waiting w.new_exception (codes "newexception") [] in
    let tail = if_among x (codes "newexception") w.new_exception [] ∙ or_false (w.new_exception && is_named x (codes "newexception")) in
    if_among x (codes "isnil") w.is_nil last ∙ ap (λ c. (w.is_nil && is_named x (codes "isnil")) || c) tail

-- those that a source doesn't declare
if_without : (x : List ℕ) (b : Bool) (names rest : List (List ℕ)) → is_among x names ≡ b →
    without (x ∷ rest) names ≡ if_waiting (not b) x (without rest names)
if_without x true names rest e = rw e
if_without x false names rest e = rw e

pub waiting_by : (w : Waiting) (names : List (List ℕ)) → w.is_nil ≡ not (is_among (codes "isnil") names) →
    w.new_exception ≡ not (is_among (codes "newexception") names) → names_in w ≡ without waiting names
waiting_by w names e f =
    let one = codes "isnil" in
    let two = codes "newexception" in
    let tail = if_without two (is_among two names) names [] refl in
    ap₂ (λ a b. if_waiting a one (if_waiting b two [])) e f ∙
    sym (if_without one (is_among one names) names (two ∷ []) refl ∙ ap (if_waiting (not (is_among one names)) one) tail)
