-- What begins an expression, and how many levels its parts have.
use Rattle.std.proofs.Common.{◌≡◌, ℕ, suc, ◌<◌, ◌≤◌, List, [], ◌∷◌, Bool, true, refl, ap, arith}
use Rattle.std.specs.Prelude.{Some, None, max, ◌&&◌, bytes_eq, codes}
use Rattle.std.proofs.lemmas.Slice.Eq.{bytes_eq-Decides}
use Rattle.arc_base.specs.declared.place.Place.{Place}
use Rattle.indent_scanner.specs.declared.token.Key.TheVariants as K
use Rattle.indent_scanner.specs.declared.token.Tok.{Tok}
use Rattle.indent_scanner.specs.declared.token.Tok.TheVariants as T
use Rattle.indent_scanner.specs.declared.token.Token.{Token}
use Rattle.nim_tree.specs.declared.expr.UnaryOp.{UnaryOp}
use Rattle.nim_tree.specs.Terms.{Term, Parts, Choices, levels, most_levels, levels_in}
use Rattle.parse_exprs.specs.declared.layout.Layout.{Layout}
use Rattle.parse_exprs.specs.declared.layout.Layout.TheVariants.{Brackets}
use Rattle.parse_exprs.specs.declared.input.Bracket.{Bracket}
use Rattle.parse_exprs.specs.declared.input.Bracket.TheVariants.{Square}
use Rattle.parse_exprs.specs.declared.input.Lead.TheVariants as L
use Rattle.parse_exprs.specs.Look.{Origin, spelling, place_at, op_levels, single_of, single, sign_named, sign_of, is_at_sign, bracket_of, bracket_at, square_at}
use Rattle.parse_exprs.specs.Look.{is_square, lead_of, lead_at, first_of_at, branch_at, is_else, else_on, branch_goes_on, colon_at}
use Rattle.parse_exprs.specs.Grammar.{Spells, p_unary, p_binary, SpellsMore, p_none, p_more, SpellsUnary, p_sign, p_plain, SpellsPrimary, p_primary}
use Rattle.parse_exprs.specs.Grammar.{SpellsSuffixes, p_done, p_suffix, SpellsSuffix, p_field, p_applied, SpellsAtom, p_token, p_group, p_sequence}
use Rattle.parse_exprs.specs.Grammar.{SpellsEnclosed, p_empty, p_parts, SpellsMoreParts, p_over, p_part, SpellsValue, p_value, p_own_line, SpellsElifs}
use Rattle.parse_exprs.specs.Grammar.{p_no_elif, p_elif, SpellsElse, p_else, SpellsBranches, p_branches, SpellsLabels, p_last_label, p_label, SpellsOfs}
use Rattle.parse_exprs.specs.Grammar.{p_last_of, p_next_of, SpellsOtherwise, p_no_else, p_with_else, Stops}
use Rattle.parse_exprs.proofs.Stopping.{none_some, none_of, both, operator_stops, fewer, comma_stops, label_comma_stops, colon_stops, elif_stops, else_stops}
use Rattle.parse_exprs.proofs.Stopping.{of_stops}
use Rattle.parse_exprs.proofs.Levels.{most_and, levels_and, applied_levels}

-- ---- no token is two things

single_no_sign : {C : Type 0} {t : Term} {op : UnaryOp} (at : Place) (bytes : List ℕ) (k : Tok) → single_of at bytes k ≡ Some t → sign_of k bytes ≡ Some op → C
single_no_sign at bytes T.Op e h = cc
single_no_sign at bytes (T.Key K.Nil) e h = cc
single_no_sign at bytes (T.Key _) e h = cc
single_no_sign at bytes _ e h = cc

bracket_no_single : {C : Type 0} {t : Term} {b : Bracket} (at : Place) (bytes : List ℕ) (k : Tok) → bracket_of k ≡ Some b → single_of at bytes k ≡ Some t → C
bracket_no_single at bytes (T.Punct c) e h = cc
bracket_no_single at bytes _ e h = cc

bracket_no_sign : {C : Type 0} {op : UnaryOp} {b : Bracket} (bytes : List ℕ) (k : Tok) → bracket_of k ≡ Some b → sign_of k bytes ≡ Some op → C
bracket_no_sign bytes (T.Punct c) e h = cc
bracket_no_sign bytes _ e h = cc

at_no_single : {C : Type 0} {t : Term} (at : Place) (bytes : List ℕ) (k : Tok) → is_at_sign k bytes ≡ true → single_of at bytes k ≡ Some t → C
at_no_single at bytes T.Op e h = cc
at_no_single at bytes _ e h = cc

at_no_bracket : {C : Type 0} {b : Bracket} (bytes : List ℕ) (k : Tok) → is_at_sign k bytes ≡ true → bracket_of k ≡ Some b → C
at_no_bracket bytes T.Op e h = cc
at_no_bracket bytes _ e h = cc

at_is : (bytes : List ℕ) → bytes_eq bytes (codes "@") ≡ true → sign_named bytes ≡ None
at_is bytes e = ap sign_named ((bytes_eq-Decides bytes (codes "@")).0 e)

at_no_sign : {C : Type 0} {op : UnaryOp} (bytes : List ℕ) (k : Tok) → is_at_sign k bytes ≡ true → sign_of k bytes ≡ Some op → C
at_no_sign bytes T.Op e h = none_some (sign_named bytes) (at_is bytes e) h
at_no_sign bytes _ e h = cc

pub group_alone : {b : Bracket} (x : Origin) (tok : Token) → bracket_of tok.kind ≡ Some b → single x tok ≡ None
group_alone x tok e = none_of (single x tok) (λ t h. bracket_no_single (place_at x tok) (spelling x tok) tok.kind e h)

pub at_alone : (x : Origin) (tok : Token) → is_at_sign tok.kind (spelling x tok) ≡ true → single x tok ≡ None
at_alone x tok e = none_of (single x tok) (λ t h. at_no_single (place_at x tok) (spelling x tok) tok.kind e h)

pub at_bracket : (x : Origin) (tok : Token) → is_at_sign tok.kind (spelling x tok) ≡ true → bracket_of tok.kind ≡ None
at_bracket x tok e = none_of (bracket_of tok.kind) (λ b h. at_no_bracket (spelling x tok) tok.kind e h)

pub point_bracket : (k : Tok) → k ≡ T.Punct 46 → bracket_of k ≡ None
point_bracket k e = ap bracket_of e

pub enclosed_bracket : {x : Origin} {b : Bracket} {m : Bool} {parts : Parts} {ts rest : List Token} → SpellsEnclosed x b m parts ts rest
    → bracket_at ts ≡ Some b
enclosed_bracket (p_empty h c) = h
enclosed_bracket (p_parts h o d c) = h

pub square_of : (ts : List Token) → bracket_at ts ≡ Some Square → square_at ts ≡ true
square_of ts e = ap is_square e

-- ---- what begins an operand

-- no operator before an operand stands here
abbrev pub IsUnsigned : Origin → List Token → Type 0
IsUnsigned x [] = ⊥
IsUnsigned x (tok ∷ ts) = sign_of tok.kind (spelling x tok) ≡ None

atom_unsigned : {x : Origin} {i : Layout} {t : Term} {ts rest : List Token} → SpellsAtom x i t ts rest → IsUnsigned x ts
atom_unsigned {x = x} (p_token {tok = tok} h) = none_of (sign_of tok.kind (spelling x tok))
    (λ op e. single_no_sign (place_at x tok) (spelling x tok) tok.kind h e)
atom_unsigned {x = x} (p_group {tok = tok} m d g) = none_of (sign_of tok.kind (spelling x tok))
    (λ op e. bracket_no_sign (spelling x tok) tok.kind (enclosed_bracket d) e)
atom_unsigned {x = x} (p_sequence {tok = tok} h on d) = none_of (sign_of tok.kind (spelling x tok)) (λ op e. at_no_sign (spelling x tok) tok.kind h e)

pub primary_unsigned : {x : Origin} {i : Layout} {c : Bool} {t : Term} {ts rest : List Token} → SpellsPrimary x i c t ts rest → IsUnsigned x ts
primary_unsigned (p_primary d c) = atom_unsigned d

sign_lead : (op : UnaryOp) (k : Tok) (bytes : List ℕ) → sign_of k bytes ≡ Some op → lead_of k ≡ L.Operand
sign_lead op (T.Key K.If) bytes e = cc
sign_lead op (T.Key K.Case) bytes e = cc
sign_lead op (T.Key _) bytes e = refl
sign_lead op _ bytes e = refl

single_lead : (t : Term) (at : Place) (bytes : List ℕ) (k : Tok) → single_of at bytes k ≡ Some t → lead_of k ≡ L.Operand
single_lead t at bytes (T.Key K.If) e = cc
single_lead t at bytes (T.Key K.Case) e = cc
single_lead t at bytes (T.Key _) e = refl
single_lead t at bytes _ e = refl

bracket_lead : (b : Bracket) (k : Tok) → bracket_of k ≡ Some b → lead_of k ≡ L.Operand
bracket_lead b (T.Key _) e = cc
bracket_lead b _ e = refl

at_lead : (k : Tok) (bytes : List ℕ) → is_at_sign k bytes ≡ true → lead_of k ≡ L.Operand
at_lead (T.Key _) bytes e = cc
at_lead _ bytes e = refl

atom_lead : {x : Origin} {i : Layout} {t : Term} {ts rest : List Token} → SpellsAtom x i t ts rest → lead_at ts ≡ L.Operand
atom_lead {x = x} {t = t} (p_token {tok = tok} h) = single_lead t (place_at x tok) (spelling x tok) tok.kind h
atom_lead (p_group {b = b} {tok = tok} m d g) = bracket_lead b tok.kind (enclosed_bracket d)
atom_lead {x = x} (p_sequence {tok = tok} h on d) = at_lead tok.kind (spelling x tok) h

unary_lead : {x : Origin} {i : Layout} {t : Term} {ts rest : List Token} → SpellsUnary x i t ts rest → lead_at ts ≡ L.Operand
unary_lead {x = x} (p_sign {op = op} {tok = tok} h on d) = sign_lead op tok.kind (spelling x tok) h
unary_lead (p_plain (p_primary d c) h) = atom_lead d

pub spells_lead : {x : Origin} {i : Layout} {l : ℕ} {t : Term} {ts rest : List Token} → Spells x i l t ts rest → lead_at ts ≡ L.Operand
spells_lead (p_unary d) = unary_lead d
spells_lead (p_binary d c) = spells_lead d

-- ---- what follows a part

pub more_stops : {x : Origin} {i : Layout} {l : ℕ} {a t : Term} {ts rest : List Token} → SpellsMore x i l a t ts rest → Stops x i (suc l) rest → Stops x i l ts
more_stops p_none s = fewer s
more_stops {x = x} {i = i} {l = l} (p_more {op = op} {tok = tok} {ts = ts} h d c) s = operator_stops x i l op tok ts h

pub parts_stop : {x : Origin} {m : Bool} {some parts : Parts} {ts rest : List Token} → SpellsMoreParts x m some parts ts rest → Stops x Brackets op_levels rest
    → Stops x Brackets op_levels ts
parts_stop (p_over h) s = s
parts_stop {x = x} {ts = ts} (p_part h d c) s = comma_stops x Brackets op_levels ts h

pub value_stops : {x : Origin} {i : Layout} {v : Term} {ts rest : List Token} → SpellsValue x i v ts rest → Stops x i op_levels ts
value_stops {x = x} {i = i} {ts = ts} (p_value h on d) = colon_stops x i i op_levels ts h
value_stops {x = x} {i = i} {ts = ts} (p_own_line h on d c) = colon_stops x i i op_levels ts h

value_colon : {x : Origin} {i : Layout} {v : Term} {ts rest : List Token} → SpellsValue x i v ts rest → colon_at i ts ≡ true
value_colon (p_value h on d) = h
value_colon (p_own_line h on d c) = h

-- an `else` before a value has its colon
pub else_of : {x : Origin} {i : Layout} {v : Term} {ts rest : List Token} (tok : Token) → branch_at i is_else (tok ∷ ts) ≡ true → SpellsValue x i v ts rest
    → else_on i (tok ∷ ts) ≡ true
else_of {i = i} {ts = ts} tok h d = both (branch_goes_on i tok.indent && is_else tok.kind) (colon_at i ts) h (value_colon d)

pub else_word : {x : Origin} {i : Layout} {v : Term} {ts rest : List Token} → SpellsElse x i v ts rest → Stops x i op_levels ts
else_word {x = x} {i = i} {ts = ts} (p_else h d) = else_stops x i i op_levels ts h

pub elifs_stop : {x : Origin} {i : Layout} {some all : Choices} {ts rest : List Token} → SpellsElifs x i some all ts rest → Stops x i op_levels rest
    → Stops x i op_levels ts
elifs_stop (p_no_elif h) s = s
elifs_stop {x = x} {i = i} {ts = ts} (p_elif h d c) s = elif_stops x i i op_levels ts h

pub ofs_stop : {x : Origin} {i : Layout} {some all : Choices} {ts rest : List Token} → SpellsOfs x i some all ts rest → Stops x i op_levels rest
    → Stops x i op_levels ts
ofs_stop (p_last_of h) s = s
ofs_stop {x = x} {i = i} {ts = ts} (p_next_of h d c) s = of_stops x i i op_levels ts h

pub otherwise_stops : {x : Origin} {i : Layout} {at : Place} {s t : Term} {all : Choices} {ts rest : List Token} → SpellsOtherwise x i at s all t ts rest
    → Stops x i op_levels rest → Stops x i op_levels ts
otherwise_stops (p_no_else h) s = s
otherwise_stops {x = x} {i = i} {ts = ts} (p_with_else h d) s = else_stops x i i op_levels ts h

pub labels_stop : {x : Origin} {i : Layout} {some all : Parts} {ts rest : List Token} → SpellsLabels x i some all ts rest → Stops x i op_levels rest
    → Stops x i op_levels ts
labels_stop (p_last_label h) s = s
labels_stop {x = x} {i = i} {ts = ts} (p_label h d c) s = label_comma_stops x i i op_levels ts h

pub branches_word : {x : Origin} {i : Layout} {at : Place} {s t : Term} {ts rest : List Token} → SpellsBranches x i at s t ts rest → first_of_at i ts ≡ true
branches_word (p_branches on d c o) = on

-- ---- levels of parts

pub more_grows : {x : Origin} {i : Layout} {l : ℕ} {a t : Term} {ts rest : List Token} → SpellsMore x i l a t ts rest → levels a ≤ levels t
more_grows p_none = omega arith
more_grows (p_more h d c) = let g = more_grows c in omega (arith, g)

pub suffix_grows : {x : Origin} {i : Layout} {a t : Term} {ts rest : List Token} → SpellsSuffix x i a t ts rest → levels a < levels t
suffix_grows (p_field p g n) = omega arith
suffix_grows {a = a} {t = t} (p_applied {m = m} {b = b} {parts = ps} k d e) = let h = applied_levels b m a ps t e in omega (arith, h)

pub suffixes_grow : {x : Origin} {i : Layout} {c : Bool} {a t : Term} {ts rest : List Token} → SpellsSuffixes x i c a t ts rest → levels a ≤ levels t
suffixes_grow p_done = omega arith
suffixes_grow (p_suffix on d c) = let h = suffix_grows d in let g = suffixes_grow c in omega (arith, h, g)

pub parts_grow : {x : Origin} {m : Bool} {some parts : Parts} {ts rest : List Token} → SpellsMoreParts x m some parts ts rest
    → most_levels some ≤ most_levels parts
parts_grow (p_over h) = omega arith
parts_grow {some = some} (p_part {b = b} h d c) = let g = parts_grow c in let e = most_and some b in omega (arith, g, e)

pub labels_grow : {x : Origin} {i : Layout} {some all : Parts} {ts rest : List Token} → SpellsLabels x i some all ts rest → most_levels some ≤ most_levels all
labels_grow (p_last_label h) = omega arith
labels_grow {some = some} (p_label {a = a} h d c) = let g = labels_grow c in let e = most_and some a in omega (arith, g, e)

pub elifs_grow : {x : Origin} {i : Layout} {some all : Choices} {ts rest : List Token} → SpellsElifs x i some all ts rest → levels_in some ≤ levels_in all
elifs_grow (p_no_elif h) = omega arith
elifs_grow {x = x} {some = some} (p_elif {tests = tests} {v = v} {tok = tok} h d c) =
    let g = elifs_grow c in
    let e = levels_and some (place_at x tok) tests v in
    omega (arith, g, e)

pub ofs_grow : {x : Origin} {i : Layout} {some all : Choices} {ts rest : List Token} → SpellsOfs x i some all ts rest → levels_in some ≤ levels_in all
ofs_grow (p_last_of h) = omega arith
ofs_grow {x = x} {some = some} (p_next_of {tests = tests} {v = v} {tok = tok} h d c) =
    let g = ofs_grow c in
    let e = levels_and some (place_at x tok) tests v in
    omega (arith, g, e)

pub otherwise_levels : {x : Origin} {i : Layout} {at : Place} {s t : Term} {all : Choices} {ts rest : List Token} → SpellsOtherwise x i at s all t ts rest
    → max (levels s) (levels_in all) < levels t
otherwise_levels (p_no_else h) = omega arith
otherwise_levels (p_with_else h d) = omega arith

pub branches_levels : {x : Origin} {i : Layout} {at : Place} {s t : Term} {ts rest : List Token} → SpellsBranches x i at s t ts rest → levels s < levels t
branches_levels (p_branches on d c o) = let h = otherwise_levels o in omega (arith, h)
