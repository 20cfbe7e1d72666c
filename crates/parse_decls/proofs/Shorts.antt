-- Lists and optional parts with few levels.
use Rattle.std.proofs.Common.{ℕ, ◌≤◌, List, Bool, arith}
use Rattle.std.specs.Prelude.{Option}
use Rattle.indent_scanner.specs.declared.token.Token.{Token}
use Rattle.nim_tree.specs.Lists.{highest, if_there}
use Rattle.parse_decls.specs.Grammar.{Each, e_over, e_next, Listed, e_first, Maybe, e_none, e_some}
use Rattle.parse_decls.specs.Faults.{Short}
use Rattle.parse_decls.proofs.TypeLists.{both_few, left_few, right_few}

pub each_short : {A : Type 0} {n : ℕ} {f : A → ℕ} {goes : List Token → Bool} {past : List Token → List Token} {R : A → List Token → List Token → Type 0}
    {all : List A} {ts rest : List Token}
    → Each goes past (Short n f R) all ts rest → Short n (highest f) (Each goes past R) all ts rest
each_short (e_over h) = record { reads = e_over h; few = omega arith }
each_short (e_next h d t) = let r = each_short t in record { reads = e_next h d.reads r.reads; few = both_few d.few r.few }

pub short_each : {A : Type 0} {n : ℕ} {f : A → ℕ} {goes : List Token → Bool} {past : List Token → List Token} {R : A → List Token → List Token → Type 0}
    {all : List A} {ts rest : List Token}
    → Each goes past R all ts rest → highest f all ≤ n → Each goes past (Short n f R) all ts rest
short_each (e_over h) a = e_over h
short_each {f = f} (e_next {a = one} {all = all} h d t) a =
    e_next h (record { reads = d; few = left_few (highest f all) a }) (short_each {f = f} t (right_few (f one) a))

pub listed_short : {A : Type 0} {n : ℕ} {f : A → ℕ} {goes : List Token → Bool} {past : List Token → List Token} {R : A → List Token → List Token → Type 0}
    {all : List A} {ts rest : List Token}
    → Listed (Short n f R) goes past (Short n f R) all ts rest → Short n (highest f) (Listed R goes past R) all ts rest
listed_short (e_first d t) = let r = each_short t in record { reads = e_first d.reads r.reads; few = both_few d.few r.few }

pub short_listed : {A : Type 0} {n : ℕ} {f : A → ℕ} {goes : List Token → Bool} {past : List Token → List Token} {R : A → List Token → List Token → Type 0}
    {all : List A} {ts rest : List Token}
    → Listed R goes past R all ts rest → highest f all ≤ n → Listed (Short n f R) goes past (Short n f R) all ts rest
short_listed {f = f} (e_first {a = one} {all = all} d t) a =
    e_first (record { reads = d; few = left_few (highest f all) a }) (short_each {f = f} t (right_few (f one) a))

pub maybe_short : {A : Type 0} {n : ℕ} {f : A → ℕ} {goes : List Token → Bool} {R : A → List Token → List Token → Type 0} {o : Option A} {ts rest : List Token}
    → Maybe goes (Short n f R) o ts rest → Short n (if_there f) (Maybe goes R) o ts rest
maybe_short (e_none h) = record { reads = e_none h; few = omega arith }
maybe_short (e_some h d) = record { reads = e_some h d.reads; few = d.few }

pub short_maybe : {A : Type 0} {n : ℕ} {f : A → ℕ} {goes : List Token → Bool} {R : A → List Token → List Token → Type 0} {o : Option A} {ts rest : List Token}
    → Maybe goes R o ts rest → if_there f o ≤ n → Maybe goes (Short n f R) o ts rest
short_maybe (e_none h) a = e_none h
short_maybe (e_some h d) a = e_some h (record { reads = d; few = a })
