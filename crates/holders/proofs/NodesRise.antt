-- The nodes at which values of an expression may wait are nodes of its text, in its order: so no two are the same.
use Rattle.std.proofs.Common.{◌≡◌, refl, sym, subst, ◌∙◌, arith, ℕ, suc, ◌≤◌, inl, inr, ◌⊎◌, Bool, true, false, List, [], ◌∷◌, ◌++◌, Option, Some, None}
use Rattle.std.specs.Prelude.{◌&&◌, nat_le}
use Rattle.std.proofs.lemmas.Bool.{false≢true, and_parts, leb-true}
use Rattle.nim_program.specs.Program.{Literal, Expr, Apply, Read, Early, Choose, Path, Variable, Fresh, Field, Element, Deref, Args, NoArg, ByValue, ByPath}
use Rattle.nim_program.specs.Program.{type_of, type_at, constant_in}
use Rattle.nim_program.specs.Folds.{lists, node_numbers, begun_by, if_constant, total, total_at, totals}
use Rattle.nim_program.specs.Numbering.{rise_to}
use Rattle.nim_program.specs.Kinds.{is_of, is_int, is_there, kind_if, field_at, element_of, object_of}
use Rattle.nim_program.specs.Fitting.{early_fits, chooser_fits}
use Rattle.nim_program.specs.Scopes as scopes
use Rattle.nim_program.specs.Typed.{is_typed, is_typed_path, are_typed, act_fits, is_read, is_whole, is_fresh, choice_is_placed}
use Rattle.nim_program.specs.Program.{types_in}
use Rattle.nim_meaning.specs.Marks.{Member, Distinct}
use Rattle.holders.specs.Evaluating.{value_nodes, path_nodes, operand_nodes}
use Rattle.holders.specs.Numbered.{Rise}

-- ---- numbers that stand in a list in the order of another one

abbrev pub AreAmong : List ℕ → List ℕ → Type 0
AreAmong [] ns = Unit {0}
AreAmong (m ∷ ms) [] = ⊥
AreAmong (m ∷ ms) (n ∷ ns) = ((m ≡ n) × AreAmong ms ns) ⊎ AreAmong (m ∷ ms) ns

among_in : (ms ns : List ℕ) → AreAmong ms ns → (n : ℕ) → Member n ms → Member n ns
among_in [] ns h n m = elim m [ ]
among_in (k ∷ ms) [] h n m = absurd h
among_in (k ∷ ms) (l ∷ ns) (inl q) n (inl e) = inl (e ∙ q.0)
among_in (k ∷ ms) (l ∷ ns) (inl q) n (inr m) = inr (among_in ms ns q.1 n m)
among_in (k ∷ ms) (l ∷ ns) (inr q) n m = inr (among_in (k ∷ ms) ns q n m)

pub among_later : (ms xs ns : List ℕ) → AreAmong ms ns → AreAmong ms (xs ++ ns)
among_later [] xs ns h = tt
among_later (m ∷ ms) [] ns h = h
among_later (m ∷ ms) (x ∷ xs) ns h = inr (among_later (m ∷ ms) xs ns h)

among_both : (ms ns ks ls : List ℕ) → AreAmong ms ns → AreAmong ks ls → AreAmong (ms ++ ks) (ns ++ ls)
among_both [] ns ks ls h k = among_later ks ns ls k
among_both (m ∷ ms) [] ks ls h k = absurd h
among_both (m ∷ ms) (n ∷ ns) ks ls (inl q) k = inl (q.0, among_both ms ns ks ls q.1 k)
among_both (m ∷ ms) (n ∷ ns) ks ls (inr q) k = inr (among_both (m ∷ ms) ns ks ls q k)

rise_less : (from less : ℕ) (ns : List ℕ) → less ≤ from → Rise from ns → Rise less ns
rise_less from less [] le r = tt
rise_less from less (n ∷ ns) le r = let h = r.0 in (omega (arith, h, le), r.1)

pub rise_among : (from : ℕ) (ms ns : List ℕ) → Rise from ns → AreAmong ms ns → Rise from ms
rise_among from [] ns r h = tt
rise_among from (m ∷ ms) [] r h = absurd h
rise_among from (m ∷ ms) (n ∷ ns) r (inl q) =
    subst (λ k. (from ≤ k) × Rise (suc k) ms) (sym q.0) (r.0, rise_among (suc n) ms ns r.1 q.1)
rise_among from (m ∷ ms) (n ∷ ns) r (inr q) =
    let h = r.0 in rise_less (suc n) from (m ∷ ms) (omega (arith, h)) (rise_among (suc n) (m ∷ ms) ns r.1 q)

pub rises : (from to : ℕ) (ns : List ℕ) → rise_to from to ns ≡ true → Rise from ns
rises from to [] h = tt
rises from to (n ∷ ns) h =
    let q = and_parts (nat_le from n) (rise_to (suc n) to ns) h in (leb-true from n q.0, rises (suc n) to ns q.1)

pub rise_first : (from : ℕ) (ms ns : List ℕ) → Rise from (ms ++ ns) → Rise from ms
rise_first from [] ns r = tt
rise_first from (m ∷ ms) ns r = (r.0, rise_first (suc m) ms ns r.1)

pub rise_second : (from : ℕ) (ms ns : List ℕ) → Rise from (ms ++ ns) → Rise from ns
rise_second from [] ns r = r
rise_second from (m ∷ ms) ns r = let h = r.0 in rise_less (suc m) from ns (omega (arith, h)) (rise_second (suc m) ms ns r.1)

pub least : (from n : ℕ) (ns : List ℕ) → Rise from ns → Member n ns → from ≤ n
least from n [] r m = elim m [ ]
least from n (k ∷ ns) r (inl e) = let h = r.0 in omega (arith, h, e)
least from n (k ∷ ns) r (inr m) = let h = r.0 in let more = least (suc k) n ns r.1 m in omega (arith, h, more)

pub rise_distinct : (from : ℕ) (ns : List ℕ) → Rise from ns → Distinct ns
rise_distinct from [] r = tt
rise_distinct from (n ∷ ns) r = (λ m. let h = least (suc n) n ns r.1 m in absurd (omega (arith, h)), rise_distinct (suc n) ns r.1)

-- ---- by the tree

begun_among : (c : Option Literal) (read : Bool) (value : Expr) → AreAmong (value_nodes value) (total lists node_numbers value) →
    AreAmong (if_constant c [] (value_nodes value))
    (if_constant c (node_numbers (begun_by c read value)) (node_numbers (begun_by c read value) ++ total lists node_numbers value))
begun_among None read value h = h
begun_among (Some literal) read value h = tt

mutual
  pub value_among : (h : scopes.Here) (e : Expr) → is_typed h e ≡ true → AreAmong (value_nodes e) (total lists node_numbers e)
  value_among h (Apply node ty act operands) typed =
      inl (refl, operands_among h operands (and_parts (act_fits h ty act operands) (are_typed h operands) typed).1)
  value_among h (Read (Variable node ty place global)) typed = inl (refl, tt)
  value_among h (Read (Fresh value)) typed = absurd (false≢true typed)
  value_among h (Read (Field node ty base field)) typed =
      let t = and_parts (is_read h.facts (Field node ty base field)) (is_typed_path h (Field node ty base field)) typed in
      inl (refl, path_among h false base (and_parts (is_of (field_at (kind_if h.facts (type_at base)) field) (Some ty)) (is_typed_path h base) t.1).1)
  value_among h (Read (Element node ty base index constant)) typed =
      let t = and_parts (is_read h.facts (Element node ty base index constant)) (is_typed_path h (Element node ty base index constant)) typed in
      let q = and_parts (is_typed_path h base) (is_typed h index)
      (and_parts (is_of (element_of (kind_if h.facts (type_at base))) (Some ty) && is_int (kind_if h.facts (type_of index)))
      (is_typed_path h base && is_typed h index) t.1).1 in
      inl (
        refl,
        among_both (path_nodes base) (total_at lists node_numbers false base) (value_nodes index) (total lists node_numbers index)
            (path_among h false base q.0) (value_among h index q.1),
      )
  value_among h (Read (Deref ty base)) typed = absurd (false≢true typed)
  value_among h (Early node ty short left right) typed =
      let t = and_parts (is_typed h left) (is_typed h right)
      (and_parts (early_fits h.facts ty (type_of left) (type_of right)) (is_typed h left && is_typed h right) typed).1 in
      among_later (value_nodes left ++ value_nodes right) (node.number ∷ []) (total lists node_numbers left ++ total lists node_numbers right)
      (among_both (value_nodes left) (total lists node_numbers left) (value_nodes right) (total lists node_numbers right)
      (value_among h left t.0) (value_among h right t.1))
  value_among h (Choose node ty chooser parts) typed =
      inl (
        refl,
        operands_among h parts (and_parts (chooser_fits h.facts ty chooser (types_in parts) && choice_is_placed chooser parts) (are_typed h parts)
            typed).1,
      )

  pub path_among : (h : scopes.Here) (read : Bool) (path : Path) → is_typed_path h path ≡ true →
      AreAmong (path_nodes path) (total_at lists node_numbers read path)
  path_among h read (Variable node ty place global) typed = tt
  path_among h read (Fresh value) typed =
      begun_among (constant_in value) read value (value_among h value (and_parts (is_fresh value && is_there (type_of value)) (is_typed h value) typed).1)
  path_among h read (Field node ty base field) typed =
      among_later (path_nodes base) (node.number ∷ []) (total_at lists node_numbers false base)
      (path_among h false base (and_parts (is_of (field_at (kind_if h.facts (type_at base)) field) (Some ty)) (is_typed_path h base) typed).1)
  path_among h read (Element node ty base index constant) typed =
      let q = and_parts (is_typed_path h base) (is_typed h index)
      (and_parts (is_of (element_of (kind_if h.facts (type_at base))) (Some ty) && is_int (kind_if h.facts (type_of index)))
      (is_typed_path h base && is_typed h index) typed).1 in
      among_later (path_nodes base ++ value_nodes index) (node.number ∷ []) (total_at lists node_numbers false base ++ total lists node_numbers index)
      (among_both (path_nodes base) (total_at lists node_numbers false base) (value_nodes index) (total lists node_numbers index)
      (path_among h false base q.0) (value_among h index q.1))
  path_among h read (Deref ty base) typed =
      path_among h false base (and_parts (is_of (object_of (kind_if h.facts (type_at base))) (Some ty)) (is_typed_path h base) typed).1

  pub operands_among : (h : scopes.Here) (args : Args) → are_typed h args ≡ true → AreAmong (operand_nodes args) (totals lists node_numbers args)
  operands_among h NoArg typed = tt
  operands_among h (ByValue value rest) typed =
      let t = and_parts (is_typed h value) (are_typed h rest) typed in
      among_both (value_nodes value) (total lists node_numbers value) (operand_nodes rest) (totals lists node_numbers rest) (value_among h value t.0)
      (operands_among h rest t.1)
  operands_among h (ByPath path rest) typed =
      let t = and_parts (is_whole h.facts path && is_typed_path h path) (are_typed h rest) typed in
      among_both (path_nodes path) (total_at lists node_numbers false path) (operand_nodes rest) (totals lists node_numbers rest)
      (path_among h false path (and_parts (is_whole h.facts path) (is_typed_path h path) t.0).1) (operands_among h rest t.1)

-- so the nodes of an expression are different ones
pub value_distinct : (h : scopes.Here) (from : ℕ) (e : Expr) → is_typed h e ≡ true → Rise from (total lists node_numbers e) → Distinct (value_nodes e)
value_distinct h from e typed r =
    rise_distinct from (value_nodes e) (rise_among from (value_nodes e) (total lists node_numbers e) r (value_among h e typed))

pub operands_distinct : (h : scopes.Here) (from : ℕ) (args : Args) → are_typed h args ≡ true → Rise from (totals lists node_numbers args) →
    Distinct (operand_nodes args)
operands_distinct h from args typed r =
    rise_distinct from (operand_nodes args) (rise_among from (operand_nodes args) (totals lists node_numbers args) r (operands_among h args typed))

-- and they are nodes of its text
pub value_members : (h : scopes.Here) (e : Expr) → is_typed h e ≡ true → (n : ℕ) → Member n (value_nodes e) → Member n (total lists node_numbers e)
value_members h e typed n m = among_in (value_nodes e) (total lists node_numbers e) (value_among h e typed) n m

pub path_members : (h : scopes.Here) (path : Path) → is_typed_path h path ≡ true → (n : ℕ) → Member n (path_nodes path) →
    Member n (total_at lists node_numbers false path)
path_members h path typed n m = among_in (path_nodes path) (total_at lists node_numbers false path) (path_among h false path typed) n m

pub operand_members : (h : scopes.Here) (args : Args) → are_typed h args ≡ true → (n : ℕ) → Member n (operand_nodes args) →
    Member n (totals lists node_numbers args)
operand_members h args typed n m = among_in (operand_nodes args) (totals lists node_numbers args) (operands_among h args typed) n m

pub path_distinct : (h : scopes.Here) (from : ℕ) (path : Path) → is_typed_path h path ≡ true → Rise from (total_at lists node_numbers false path) →
    Distinct (path_nodes path)
path_distinct h from path typed r =
    rise_distinct from (path_nodes path) (rise_among from (path_nodes path) (total_at lists node_numbers false path) r (path_among h false path typed))
