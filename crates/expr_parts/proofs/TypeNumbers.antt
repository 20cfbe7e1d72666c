-- Types by number, under a list that begins with those of a table.
use Rattle.std.proofs.Common.{◌≡◌, ℕ, ◌<◌, List, length, Some, sym, ap, ap₂, ◌∙◌, subst}
use Rattle.std.specs.Prelude.{slice_get, nat_eq}
use Rattle.std.proofs.lemmas.Option.{slice_get_within}
use Rattle.nim_types.specs.declared.types.TypeDef.{TypeDef}
use Rattle.nim_types.specs.declared.types.TypeDef.TheVariants as D
use Rattle.nim_types.specs.Types as type
use Rattle.nim_types.specs.Types.{Ty, Facts, fact_of, same}
use Rattle.nim_types.specs.Table.{type_at, types_in, meant, said_of, parts_of, AllBelow}
use Rattle.nim_types.proofs.ForCallers.{count, front, meant_front, said_front, at_entry, entry_inside, interned, said_number}
use Rattle.expr_parts.specs.declared.scope.Kinds.{Kinds}
use Rattle.expr_parts.specs.View.{Under, KindsIn}

-- a number of the table
pub front_of : {ds : List TypeDef} {ts : List Ty} {facts : Facts} (i : ℕ) → Under ds ts facts → i < length ds → type_at ts i ≡ type_at (types_in ds) i
front_of {ds} i u h = ap (λ z. type_at z i) u.begins ∙ front (types_in ds) u.more i (subst (λ n. i < n) (sym (count ds)) h)

meant_under : {ds : List TypeDef} {ts : List Ty} {facts : Facts} (i : ℕ) (d : TypeDef) → Under ds ts facts → slice_get ds i ≡ Some d
    → meant ts d ≡ meant (types_in ds) d
meant_under {ds} i d u e = ap (λ z. meant z d) u.begins ∙ meant_front (types_in ds) u.more d (entry_inside ds i d u.table e)

pub entry_under : {ds : List TypeDef} {ts : List Ty} {facts : Facts} (i : ℕ) (d : TypeDef) → Under ds ts facts → i < length ds → slice_get ds i ≡ Some d
    → type_at ts i ≡ meant ts d
entry_under {ds} i d u h e = front_of i u h ∙ at_entry ds i d u.table e ∙ sym (meant_under i d u e)

said_under : {ds : List TypeDef} {ts : List Ty} {facts : Facts} (i : ℕ) (d : TypeDef) → Under ds ts facts → slice_get ds i ≡ Some d
    → said_of ts d ≡ said_of (types_in ds) d
said_under {ds} i d u e =
    ap (λ z. said_of z d) u.begins
    ∙ said_front (types_in ds) u.more d (entry_inside ds i d u.table e) (subst (λ n. AllBelow n (parts_of d)) (sym (count ds)) (u.table.parts i d e))

-- what is said of a type is what its entry says
pub fact_under : {ds : List TypeDef} {ts : List Ty} {facts : Facts} (i : ℕ) (d : TypeDef) → Under ds ts facts → i < length ds → slice_get ds i ≡ Some d
    → fact_of facts (meant ts d) ≡ said_of ts d
fact_under {ds} i d u h e =
    ap₂ fact_of u.said (sym (entry_under i d u h e) ∙ front_of i u h) ∙ said_number ds i d u.table e ∙ sym (said_under i d u e)

-- types are equal where their numbers are
pub interned_under : {ds : List TypeDef} {ts : List Ty} {facts : Facts} (i j : ℕ) → Under ds ts facts → i < length ds → j < length ds
    → same (type_at ts i) (type_at ts j) ≡ nat_eq i j
interned_under {ds} i j u h k = ap₂ same (front_of i u h) (front_of j u k) ∙ interned ds i j u.table h k

-- ---- types that no source declares

pub int_below : {ds : List TypeDef} {k : Kinds} → KindsIn ds k → k.int < length ds
int_below {ds} {k} h = slice_get_within ds k.int D.Int h.int

pub bool_below : {ds : List TypeDef} {k : Kinds} → KindsIn ds k → k.bool < length ds
bool_below {ds} {k} h = slice_get_within ds k.bool D.Bool h.bool

pub char_below : {ds : List TypeDef} {k : Kinds} → KindsIn ds k → k.char < length ds
char_below {ds} {k} h = slice_get_within ds k.char D.Char h.char

pub text_below : {ds : List TypeDef} {k : Kinds} → KindsIn ds k → k.text < length ds
text_below {ds} {k} h = slice_get_within ds k.text D.Text h.text

pub int_under : {ds : List TypeDef} {ts : List Ty} {facts : Facts} {k : Kinds} → Under ds ts facts → KindsIn ds k → type_at ts k.int ≡ type.int
int_under {k = k} u h = entry_under k.int D.Int u (int_below h) h.int

pub bool_under : {ds : List TypeDef} {ts : List Ty} {facts : Facts} {k : Kinds} → Under ds ts facts → KindsIn ds k → type_at ts k.bool ≡ type.bool
bool_under {k = k} u h = entry_under k.bool D.Bool u (bool_below h) h.bool

pub char_under : {ds : List TypeDef} {ts : List Ty} {facts : Facts} {k : Kinds} → Under ds ts facts → KindsIn ds k → type_at ts k.char ≡ type.char
char_under {k = k} u h = entry_under k.char D.Char u (char_below h) h.char

pub text_under : {ds : List TypeDef} {ts : List Ty} {facts : Facts} {k : Kinds} → Under ds ts facts → KindsIn ds k → type_at ts k.text ≡ type.text
text_under {k = k} u h = entry_under k.text D.Text u (text_below h) h.text
