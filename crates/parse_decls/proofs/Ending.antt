-- Reading ends: one line for each function of specs/Run.antt. A call has fewer tokens, or a lower number behind `64 *`.
use Rattle.std.proofs.Common.{ℕ, zero, suc, ◌<◌, ◌≤◌, ◌+◌, ◌*◌, List, [], ◌∷◌, ◌++◌, length, Bool, true, false, arith}
use Rattle.std.specs.Prelude.{Option, Some, None, nat_lt, ◌&&◌, if◌then◌else◌, codes}
use Rattle.arc_base.specs.declared.place.Place.{Place}
use Rattle.indent_scanner.specs.declared.token.Token.{Token}
use Rattle.nim_tree.specs.declared.name.Name.{Name}
use Rattle.nim_tree.specs.declared.name.Declared.{Declared}
use Rattle.nim_tree.specs.declared.name.Pragma.{Pragma}
use Rattle.nim_tree.specs.declared.name.PragmaKind.{PragmaKind}
use Rattle.nim_tree.specs.declared.stmt.ParamMode.{ParamMode}
use Rattle.nim_tree.specs.declared.stmt.ParamMode.TheVariants as M
use Rattle.nim_tree.specs.Terms.{Term, levels}
use Rattle.nim_tree.specs.Types.{Written, Arguments, no_arguments, argument, and_argument, Fields, no_fields, fields, and_field, Declaration}
use Rattle.nim_tree.specs.Statements.{Definition, Parameters}
use Rattle.parse_exprs.specs.declared.layout.Layout.{Layout}
use Rattle.parse_exprs.specs.declared.layout.Layout.TheVariants.{Brackets, Lines}
use Rattle.parse_exprs.specs.declared.input.Bracket.TheVariants.{Round, Square}
use Rattle.parse_exprs.specs.Look.{Origin, spelling, place_at, goes_on, is_run, left_out_at, closes_at, name_on, stays, colon_at, comma_at, kind_at}
use Rattle.parse_exprs.specs.Ends as N
use Rattle.parse_exprs.specs.Outcome as E
use Rattle.parse_exprs.specs.Run.{run_expr}
use Rattle.parse_exprs.proofs.ForCallers.{exprs_end}
use Rattle.parse_decls.specs.declared.look.TypeLead.{TypeLead}
use Rattle.parse_decls.specs.declared.look.TypeLead.TheVariants as L
use Rattle.parse_decls.specs.declared.look.BodyLead.{BodyLead}
use Rattle.parse_decls.specs.declared.look.BodyLead.TheVariants as B
use Rattle.parse_decls.specs.Look.{behind, deeper_at, stands_at, level_at, past_star, proc_name_on, opens_at, equals_at, of_at, separator_at, is_pragma_close}
use Rattle.parse_decls.specs.Look.{pragmas_at, pragma_named, type_lead, type_at, mode_at, past_if_mode, past_mode, body_lead, member_at}
use Rattle.parse_decls.specs.Outcome.{Out, got, bad, then_do, too_deep, left_out, stuck, stuck_at, unless_stuck, of_expr}
use Rattle.parse_decls.specs.Run.{most_levels, run_named, run_name, run_more_names, run_names, run_shown, run_declared, run_more_declared, run_declareds}
use Rattle.parse_decls.specs.Run.{run_generics, run_known, run_pragma_name, run_pragma, run_more_pragmas, run_pragmas, length_of, run_length, run_type}
use Rattle.parse_decls.specs.Run.{run_sort, run_inside, run_arguments, run_part, run_parts, run_written, run_typed, run_annotation, run_given, run_defined}
use Rattle.parse_decls.specs.Run.{run_def, run_defs, run_def_block, run_parent, run_field, run_fields, run_field_block, run_object, run_more_members}
use Rattle.parse_decls.specs.Run.{run_members, run_body_by, run_body, run_declaration, run_declarations, run_types, run_param, run_more_params, run_params}
use Rattle.parse_decls.specs.Run.{run_head}
use Rattle.parse_decls.specs.Ends.{Ends, e_read, e_not}

-- ---- steps put together

pub wider : {X : Type 0} {m n : ℕ} {o : Out X} → m ≤ n → Ends m o → Ends n o
wider le (e_read lt) = e_read (omega (arith, le, lt))
wider le (e_not p) = e_not p

pub ends_then : {X Y : Type 0} {m n : ℕ} {o : Out X} (go : X → List Token → Out Y) → Ends m o → ((a : X) (mid : List Token) → length mid < m
    → Ends n (go a mid)) → Ends n (then_do o go)
ends_then go (e_read lt) f = f _ _ lt
ends_then go (e_not p) f = e_not p

pub ends_stuck : {X : Type 0} {m : ℕ} (ts : List Token) → Ends {X = X} m (bad (stuck_at ts))
ends_stuck [] = e_not tt
ends_stuck {X} {m} (tok ∷ ts) = by (left_out_at (tok ∷ ts))
  where
    by : (b : Bool) → Ends {X = X} m (bad (if b then left_out (tok ∷ ts) else stuck (tok ∷ ts)))
    by true = e_not (omega arith)
    by false = e_not tt

pub ends_unless : {X : Type 0} {n : ℕ} {go : Out X} (b : Bool) (ts : List Token) → Ends n go → Ends n (unless_stuck b ts go)
ends_unless true ts h = h
ends_unless false ts h = ends_stuck ts

pub ends_if : {X : Type 0} {n : ℕ} {f g : Out X} (b : Bool) → Ends n f → Ends n g → Ends n (if b then f else g)
ends_if true h k = h
ends_if false h k = k

pub ends_of : {X : Type 0} {m : ℕ} {o : E.Out X} (whole : List Token) → m ≤ length whole → N.Ends m o → Ends m (of_expr whole o)
ends_of whole le (N.e_read lt) = e_read lt
ends_of whole le (N.e_deep some) = e_not (omega (arith, le, some))
ends_of whole le (N.e_stuck {rest = rest}) = ends_stuck rest

pub behind_within : (ts : List Token) → length (behind ts) ≤ length ts
behind_within [] = omega arith
behind_within (tok ∷ ts) = omega arith

star_within_by : (b : Bool) (tok : Token) (ts : List Token) → length (if b then ts else tok ∷ ts) ≤ suc (length ts)
star_within_by true tok ts = omega arith
star_within_by false tok ts = omega arith

star_within : (x : Origin) (i : Layout) (ts : List Token) → length (past_star x i ts) ≤ length ts
star_within x i [] = omega arith
star_within x i (tok ∷ ts) = star_within_by (goes_on i tok.indent && is_run (codes "*") tok.kind (spelling x tok)) tok ts

mode_within_by : (mode : ParamMode) (ts : List Token) → length (past_if_mode mode ts) ≤ length ts
mode_within_by M.Plain ts = omega arith
mode_within_by M.Var ts = behind_within ts
mode_within_by M.Sink ts = behind_within ts

mode_within : (x : Origin) (ts : List Token) → length (past_mode x ts) ≤ length ts
mode_within x ts = mode_within_by (mode_at x ts) ts

-- an expression
pub ends_expr : (k : ℕ) (x : Origin) (i : Layout) (ts : List Token) → 64 * length ts + 32 ≤ k → Ends (length ts) (of_expr ts (run_expr k x i most_levels ts))
ends_expr k x i ts le = ends_of ts (omega arith) (exprs_end x i most_levels ts k le)

-- ---- names

ends_named : (x : Origin) (o : Option Token) (tok : Token) (ts : List Token) → Ends (suc (length ts)) (run_named x o (tok ∷ ts))
ends_named x None tok ts = ends_stuck (tok ∷ ts)
ends_named x (Some name) tok ts = e_read (omega arith)

pub ends_name : (x : Origin) (i : Layout) (ts : List Token) → Ends (length ts) (run_name x i ts)
ends_name x i [] = e_not tt
ends_name x i (tok ∷ ts) = ends_named x (name_on i (tok ∷ ts)) tok ts

ends_more_names : (k : ℕ) (x : Origin) (i : Layout) (some : List Name) (ts : List Token) → 64 * length ts + 1 ≤ k
    → Ends (suc (length ts)) (run_more_names k x i some ts)
ends_more_names zero x i some ts le = absurd (omega (arith, le))
ends_more_names (suc k) x i some [] le = e_read (omega arith)
ends_more_names (suc k) x i some (tok ∷ ts) le =
    ends_if (comma_at i (tok ∷ ts)) (ends_then _ (ends_name x Brackets ts)
    (λ name mid lt. wider (omega (arith, lt)) (ends_more_names k x i (some ++ name ∷ []) mid (omega (arith, le, lt))))) (e_read (omega arith))

pub ends_names : (k : ℕ) (x : Origin) (i : Layout) (ts : List Token) → 64 * length ts + 1 ≤ k → Ends (length ts) (run_names k x i ts)
ends_names k x i ts le = ends_then _ (ends_name x i ts) (λ name mid lt. wider (omega (arith, lt))
    (ends_more_names k x i (name ∷ []) mid (omega (arith, le, lt))))

ends_shown : (x : Origin) (i : Layout) (o : Option Token) (tok : Token) (ts : List Token) → Ends (suc (length ts)) (run_shown x i o (tok ∷ ts))
ends_shown x i None tok ts = ends_stuck (tok ∷ ts)
ends_shown x i (Some name) tok ts = let h = star_within x i ts in e_read (omega (arith, h))

ends_declared : (x : Origin) (first i : Layout) (ts : List Token) → Ends (length ts) (run_declared x first i ts)
ends_declared x first i [] = e_not tt
ends_declared x first i (tok ∷ ts) = ends_shown x i (name_on first (tok ∷ ts)) tok ts

ends_more_declared : (k : ℕ) (x : Origin) (i : Layout) (some : List Declared) (ts : List Token) → 64 * length ts + 1 ≤ k
    → Ends (suc (length ts)) (run_more_declared k x i some ts)
ends_more_declared zero x i some ts le = absurd (omega (arith, le))
ends_more_declared (suc k) x i some [] le = e_read (omega arith)
ends_more_declared (suc k) x i some (tok ∷ ts) le =
    ends_if (comma_at i (tok ∷ ts)) (ends_then _ (ends_declared x Brackets i ts)
    (λ name mid lt. wider (omega (arith, lt)) (ends_more_declared k x i (some ++ name ∷ []) mid (omega (arith, le, lt))))) (e_read (omega arith))

ends_declareds : (k : ℕ) (x : Origin) (first i : Layout) (ts : List Token) → 64 * length ts + 1 ≤ k → Ends (length ts) (run_declareds k x first i ts)
ends_declareds k x first i ts le = ends_then _ (ends_declared x first i ts)
    (λ name mid lt. wider (omega (arith, lt)) (ends_more_declared k x i (name ∷ []) mid (omega (arith, le, lt))))

ends_generics : (k : ℕ) (x : Origin) (i : Layout) (ts : List Token) → 64 * length ts + 1 ≤ k → Ends (suc (length ts)) (run_generics k x i ts)
ends_generics k x i [] le = e_read (omega arith)
ends_generics k x i (tok ∷ ts) le =
    ends_if (opens_at i Square (tok ∷ ts)) (ends_then _ (ends_names k x Brackets ts (omega (arith, le)))
    (λ names mid lt. let h = behind_within mid in ends_unless (closes_at Square mid) mid (e_read (omega (arith, lt, h))))) (e_read (omega arith))

-- ---- pragmas

ends_pragma_name : (x : Origin) (o : Option Token) (tok : Token) (ts : List Token) → Ends (suc (length ts)) (run_pragma_name x o (tok ∷ ts))
ends_pragma_name x None tok ts = ends_stuck (tok ∷ ts)
ends_pragma_name x (Some name) tok ts = by (pragma_named (spelling x name))
  where
    by : (o : Option PragmaKind) → Ends (suc (length ts)) (run_known x name o (tok ∷ ts))
    by None = e_not (omega arith)
    by (Some kind) = e_read (omega arith)

ends_pragma : (x : Origin) (ts : List Token) → Ends (length ts) (run_pragma x ts)
ends_pragma x [] = e_not tt
ends_pragma x (tok ∷ ts) = ends_pragma_name x (name_on Brackets (tok ∷ ts)) tok ts

ends_more_pragmas : (k : ℕ) (x : Origin) (some : List Pragma) (ts : List Token) → 64 * length ts + 1 ≤ k → Ends (suc (length ts)) (run_more_pragmas k x some ts)
ends_more_pragmas zero x some ts le = absurd (omega (arith, le))
ends_more_pragmas (suc k) x some [] le = e_not tt
ends_more_pragmas (suc k) x some (tok ∷ ts) le =
    ends_if (comma_at Brackets (tok ∷ ts)) (ends_then _ (ends_pragma x ts)
    (λ pragma mid lt. wider (omega (arith, lt)) (ends_more_pragmas k x (some ++ pragma ∷ []) mid (omega (arith, le, lt)))))
    (ends_unless (kind_at is_pragma_close (tok ∷ ts)) (tok ∷ ts) (e_read (omega arith)))

ends_pragmas : (k : ℕ) (x : Origin) (i : Layout) (ts : List Token) → 64 * length ts + 1 ≤ k → Ends (suc (length ts)) (run_pragmas k x i ts)
ends_pragmas k x i [] le = e_read (omega arith)
ends_pragmas k x i (tok ∷ ts) le =
    ends_if (pragmas_at i (tok ∷ ts)) (ends_then _ (ends_pragma x ts)
    (λ pragma mid lt. wider (omega (arith, lt)) (ends_more_pragmas k x (pragma ∷ []) mid (omega (arith, le, lt))))) (e_read (omega arith))

-- ---- written types

ends_few : (b : Bool) (whole : List Token) (n : ℕ) (a : Term) (rest : List Token) → 0 < length whole → length rest < n
    → Ends n (if b then bad (too_deep whole) else got (Some a) rest)
ends_few true whole n a rest some lt = e_not some
ends_few false whole n a rest some lt = e_read lt

ends_length_of : {o : E.Out Term} (whole : List Token) (n : ℕ) (ts : List Token) → length ts ≤ length whole → N.Ends (length ts) o
    → Ends (suc (length ts)) (length_of whole n ts o)
ends_length_of whole n ts part (N.e_read {a = a} {rest = mid} lt) =
    let h = behind_within mid in
    ends_if (comma_at Brackets mid) (ends_few (nat_lt n (levels a)) whole (suc (length ts)) a (behind mid) (omega (arith, part, lt)) (omega (arith, lt, h)))
    (e_read (omega arith))
ends_length_of whole n ts part (N.e_deep some) = e_not (omega (arith, part, some))
ends_length_of whole n ts part N.e_stuck = e_read (omega arith)

ends_length : (k : ℕ) (x : Origin) (whole : List Token) (n : ℕ) (ts : List Token) → length ts ≤ length whole → 64 * length ts + 32 ≤ k
    → Ends (suc (length ts)) (run_length k x whole n ts)
ends_length k x whole n ts part le =
    ends_if (type_at ts) (ends_length_of whole n ts part (exprs_end x Brackets most_levels ts k le))
    (ends_then _ (ends_of whole part (exprs_end x Brackets n ts k le)) (λ a mid lt.
    let h = behind_within mid in ends_unless (comma_at Brackets mid) mid (e_read (omega (arith, lt, h)))))

mutual
  ends_type : (k : ℕ) (x : Origin) (i : Layout) (whole : List Token) (n : ℕ) (ts : List Token) → length ts ≤ length whole → 64 * length ts + 40 ≤ k
      → Ends (length ts) (run_type k x i whole n ts)
  ends_type zero x i whole n ts part le = absurd (omega (arith, le))
  ends_type (suc k) x i whole zero [] part le = e_not tt
  ends_type (suc k) x i whole zero (tok ∷ ts) part le = by (type_at (tok ∷ ts))
    where
      by : (b : Bool) → Ends {X = Written} (suc (length ts)) (bad (if b then too_deep whole else stuck_at (tok ∷ ts)))
      by true = e_not (omega (arith, part))
      by false = ends_stuck (tok ∷ ts)
  ends_type (suc k) x i whole (suc n) [] part le = e_not tt
  ends_type (suc k) x i whole (suc n) (tok ∷ ts) part le = ends_sort k (type_lead x i tok ts) x i whole n tok ts part (omega (arith, le))

  ends_sort : (k : ℕ) (lead : TypeLead) (x : Origin) (i : Layout) (whole : List Token) (n : ℕ) (tok : Token) (ts : List Token)
      → suc (length ts) ≤ length whole → 64 * suc (length ts) + 39 ≤ k → Ends (suc (length ts)) (run_sort k lead x i whole n tok ts)
  ends_sort zero lead x i whole n tok ts part le = absurd (omega (arith, le))
  ends_sort (suc k) L.Other x i whole n tok ts part le = ends_stuck (tok ∷ ts)
  ends_sort (suc k) L.Name x i whole n tok ts part le =
      let h = behind_within ts in
      ends_if (opens_at i Square ts) (wider (omega (arith, h)) (ends_inside k None x whole n tok (behind ts) (omega (arith, part, h)) (omega (arith, le, h))))
      (e_read (omega arith))
  ends_sort (suc k) L.Array x i whole n tok ts part le =
      let h = behind_within ts in
      ends_then _ (ends_length k x whole n (behind ts) (omega (arith, part, h)) (omega (arith, le, h))) (λ given mid lt.
      wider (omega (arith, h, lt)) (ends_inside k given x whole n tok mid (omega (arith, part, h, lt)) (omega (arith, le, h, lt))))
  ends_sort (suc k) L.Ref x i whole n tok ts part le =
      ends_unless (stays i ts) ts (ends_then _ (ends_type k x i whole n ts (omega (arith, part)) (omega (arith, le))) (λ a rest lt. e_read (omega (arith, lt))))
  ends_sort (suc k) L.Tuple x i whole n tok ts part le =
      let h = behind_within ts in
      let g = behind_within (behind ts) in
      ends_unless (opens_at i Square ts) ts (
      ends_if (closes_at Square (behind ts)) (e_read (omega (arith, h, g))) (
      ends_then _ (ends_part k x whole n (behind ts) (omega (arith, part, h)) (omega (arith, le, h))) (λ one mid lt.
      ends_then _ (ends_parts k x whole n (fields one.names one.of no_fields) mid (omega (arith, part, h, lt)) (omega (arith, le, h, lt))) (λ all end less.
      let f = behind_within end in ends_unless (closes_at Square end) end (e_read (omega (arith, h, lt, less, f)))))))

  ends_inside : (k : ℕ) (given : Option Term) (x : Origin) (whole : List Token) (n : ℕ) (tok : Token) (ts : List Token) → length ts ≤ length whole
      → 64 * length ts + 41 ≤ k → Ends (length ts) (run_inside k given x whole n tok ts)
  ends_inside zero given x whole n tok ts part le = absurd (omega (arith, le))
  ends_inside (suc k) None x whole n tok ts part le =
      ends_then _ (ends_type k x Brackets whole n ts part (omega (arith, le))) (λ a mid lt.
      ends_then _ (ends_arguments k x whole n (argument a no_arguments) mid (omega (arith, part, lt)) (omega (arith, le, lt))) (λ all end less.
      let g = behind_within end in ends_unless (closes_at Square end) end (e_read (omega (arith, lt, less, g)))))
  ends_inside (suc k) (Some given) x whole n tok ts part le =
      ends_then _ (ends_type k x Brackets whole n ts part (omega (arith, le))) (λ a end lt.
      let g = behind_within end in ends_unless (closes_at Square end) end (e_read (omega (arith, lt, g))))

  ends_arguments : (k : ℕ) (x : Origin) (whole : List Token) (n : ℕ) (some : Arguments) (ts : List Token) → length ts ≤ length whole → 64 * length ts + 1 ≤ k
      → Ends (suc (length ts)) (run_arguments k x whole n some ts)
  ends_arguments zero x whole n some ts part le = absurd (omega (arith, le))
  ends_arguments (suc k) x whole n some [] part le = e_read (omega arith)
  ends_arguments (suc k) x whole n some (tok ∷ ts) part le =
      ends_if (comma_at Brackets (tok ∷ ts)) (ends_then _ (ends_type k x Brackets whole n ts (omega (arith, part)) (omega (arith, le)))
      (λ a mid lt. wider (omega (arith, lt)) (ends_arguments k x whole n (and_argument some a) mid (omega (arith, part, lt)) (omega (arith, le, lt)))))
      (e_read (omega arith))

  ends_part : (k : ℕ) (x : Origin) (whole : List Token) (n : ℕ) (ts : List Token) → length ts ≤ length whole → 64 * length ts + 42 ≤ k
      → Ends (length ts) (run_part k x whole n ts)
  ends_part zero x whole n ts part le = absurd (omega (arith, le))
  ends_part (suc k) x whole n ts part le =
      ends_then _ (ends_declareds k x Brackets Brackets ts (omega (arith, le))) (λ names mid lt.
      let h = behind_within mid in
      ends_unless (colon_at Brackets mid) mid (
      ends_then _ (ends_type k x Brackets whole n (behind mid) (omega (arith, part, lt, h)) (omega (arith, le, lt, h)))
      (λ a rest less. e_read (omega (arith, lt, h, less)))))

  ends_parts : (k : ℕ) (x : Origin) (whole : List Token) (n : ℕ) (some : Fields) (ts : List Token) → length ts ≤ length whole → 64 * length ts + 1 ≤ k
      → Ends (suc (length ts)) (run_parts k x whole n some ts)
  ends_parts zero x whole n some ts part le = absurd (omega (arith, le))
  ends_parts (suc k) x whole n some [] part le = e_read (omega arith)
  ends_parts (suc k) x whole n some (tok ∷ ts) part le =
      ends_if (comma_at Brackets (tok ∷ ts)) (ends_then _ (ends_part k x whole n ts (omega (arith, part)) (omega (arith, le)))
      (λ one mid lt. wider (omega (arith, lt)) (ends_parts k x whole n (and_field some one.names one.of) mid (omega (arith, part, lt))
      (omega (arith, le, lt))))) (e_read (omega arith))

ends_written : (k : ℕ) (x : Origin) (i : Layout) (ts : List Token) → 64 * length ts + 40 ≤ k → Ends (length ts) (run_written k x i ts)
ends_written k x i ts le = ends_type k x i ts most_levels ts (omega arith) le

ends_typed : (k : ℕ) (x : Origin) (i : Layout) (ts : List Token) → 64 * length ts + 40 ≤ k → Ends (length ts) (run_typed k x i ts)
ends_typed k x i ts le =
    let h = behind_within ts in ends_unless (colon_at i ts) ts
    (ends_unless (stays i (behind ts)) (behind ts) (wider h (ends_written k x i (behind ts) (omega (arith, le, h)))))

ends_annotation : (k : ℕ) (x : Origin) (i : Layout) (ts : List Token) → 64 * length ts + 40 ≤ k → Ends (suc (length ts)) (run_annotation k x i ts)
ends_annotation k x i ts le = ends_if (colon_at i ts) (ends_then _ (ends_typed k x i ts le) (λ a rest lt. e_read (omega (arith, lt)))) (e_read (omega arith))

-- ---- definitions

ends_given : (k : ℕ) (x : Origin) (i : Layout) (ts : List Token) → 64 * length ts + 40 ≤ k → Ends (suc (length ts)) (run_given k x i ts)
ends_given k x i ts le =
    let h = behind_within ts in
    ends_if (equals_at i ts) (ends_unless (stays i (behind ts)) (behind ts)
    (ends_then _ (ends_expr k x i (behind ts) (omega (arith, le, h))) (λ a rest lt. e_read (omega (arith, lt, h))))) (e_read (omega arith))

ends_defined : (k : ℕ) (x : Origin) (first i : Layout) (ts : List Token) → 64 * length ts + 40 ≤ k → Ends (length ts) (run_defined k x first i ts)
ends_defined k x first i ts le =
    ends_then _ (ends_declareds k x first i ts (omega (arith, le))) (λ names a la.
    ends_then _ (ends_pragmas k x i a (omega (arith, le, la))) (λ pragmas b lb.
    ends_then _ (ends_annotation k x i b (omega (arith, le, la, lb))) (λ annotation c lc.
    ends_then _ (ends_given k x i c (omega (arith, le, la, lb, lc))) (λ value rest lt. e_read (omega (arith, la, lb, lc, lt))))))

pub ends_def : (k : ℕ) (x : Origin) (i : Layout) (ts : List Token) → 64 * length ts + 40 ≤ k → Ends (length ts) (run_def k x i ts)
ends_def k x i ts le = ends_defined k x i i ts le

ends_defs : (k : ℕ) (x : Origin) (n : ℕ) (some : List Definition) (ts : List Token) → 64 * length ts + 41 ≤ k → Ends (suc (length ts)) (run_defs k x n some ts)
ends_defs zero x n some ts le = absurd (omega (arith, le))
ends_defs (suc k) x n some ts le =
    ends_if (stands_at n ts) (ends_then _ (ends_defined k x Brackets (Lines n) ts (omega (arith, le)))
    (λ one mid lt. wider (omega (arith, lt)) (ends_defs k x n (some ++ one ∷ []) mid (omega (arith, le, lt))))) (e_read (omega arith))

pub ends_def_block : (k : ℕ) (x : Origin) (n : ℕ) (ts : List Token) → 64 * length ts + 41 ≤ k → Ends (suc (length ts)) (run_def_block k x n ts)
ends_def_block k x n ts le = ends_unless (deeper_at n ts) ts (ends_defs k x (level_at ts) [] ts le)

-- ---- declarations of types

ends_parent : (x : Origin) (i : Layout) (ts : List Token) → Ends (suc (length ts)) (run_parent x i ts)
ends_parent x i ts = let h = behind_within ts in ends_if (of_at i ts)
    (ends_then _ (ends_name x i (behind ts)) (λ name rest lt. e_read (omega (arith, lt, h)))) (e_read (omega arith))

ends_field : (k : ℕ) (x : Origin) (n : ℕ) (ts : List Token) → 64 * length ts + 40 ≤ k → Ends (length ts) (run_field k x n ts)
ends_field k x n ts le =
    ends_then _ (ends_declareds k x Brackets (Lines n) ts (omega (arith, le)))
    (λ names mid lt. ends_then _ (ends_typed k x (Lines n) mid (omega (arith, le, lt))) (λ a rest less. e_read (omega (arith, lt, less))))

ends_fields : (k : ℕ) (x : Origin) (n : ℕ) (some : Fields) (ts : List Token) → 64 * length ts + 41 ≤ k → Ends (suc (length ts)) (run_fields k x n some ts)
ends_fields zero x n some ts le = absurd (omega (arith, le))
ends_fields (suc k) x n some ts le =
    ends_if (stands_at n ts) (ends_then _ (ends_field k x n ts (omega (arith, le)))
    (λ one mid lt. wider (omega (arith, lt)) (ends_fields k x n (and_field some one.names one.of) mid (omega (arith, le, lt))))) (e_read (omega arith))

ends_field_block : (k : ℕ) (x : Origin) (n : ℕ) (ts : List Token) → 64 * length ts + 41 ≤ k → Ends (suc (length ts)) (run_field_block k x n ts)
ends_field_block k x n ts le = ends_if (deeper_at n ts) (ends_fields k x (level_at ts) no_fields ts le) (e_read (omega arith))

ends_object : (k : ℕ) (x : Origin) (n : ℕ) (at : Place) (is_ref : Bool) (ts : List Token) → 64 * length ts + 41 ≤ k
    → Ends (suc (length ts)) (run_object k x n at is_ref ts)
ends_object k x n at is_ref ts le =
    ends_then _ (ends_parent x (Lines n) ts) (λ parent mid lt. ends_then _ (ends_field_block k x n mid (omega (arith, le, lt)))
    (λ all rest less. e_read (omega (arith, lt, less))))

ends_more_members : (k : ℕ) (x : Origin) (m : ℕ) (some : List Name) (ts : List Token) → 64 * length ts + 1 ≤ k
    → Ends (suc (length ts)) (run_more_members k x m some ts)
ends_more_members zero x m some ts le = absurd (omega (arith, le))
ends_more_members (suc k) x m some [] le = e_read (omega arith)
ends_more_members (suc k) x m some (tok ∷ ts) le =
    ends_if (comma_at (Lines m) (tok ∷ ts)) (ends_then _ (ends_name x Brackets ts)
    (λ name mid lt. wider (omega (arith, lt)) (ends_more_members k x m (some ++ name ∷ []) mid (omega (arith, le, lt)))))
    (ends_if (member_at m (tok ∷ ts)) (ends_then _ (ends_name x Brackets (tok ∷ ts))
    (λ name mid lt. wider (omega (arith, lt)) (ends_more_members k x m (some ++ name ∷ []) mid (omega (arith, le, lt))))) (e_read (omega arith)))

ends_members : (k : ℕ) (x : Origin) (n : ℕ) (ts : List Token) → 64 * length ts + 1 ≤ k → Ends (length ts) (run_members k x n ts)
ends_members k x n ts le =
    ends_if (deeper_at n ts) (ends_then _ (ends_name x Brackets ts)
    (λ name mid lt. wider (omega (arith, lt)) (ends_more_members k x (level_at ts) (name ∷ []) mid (omega (arith, le, lt)))))
    (ends_names k x (Lines n) ts le)

ends_body_by : (k : ℕ) (lead : BodyLead) (x : Origin) (n : ℕ) (at : Place) (tok : Token) (ts : List Token) → 64 * suc (length ts) + 41 ≤ k
    → Ends (suc (length ts)) (run_body_by k lead x n at (tok ∷ ts))
ends_body_by k B.Object x n at tok ts le = ends_object k x n at false ts (omega (arith, le))
ends_body_by k B.RefObject x n at tok ts le = let h = behind_within ts in wider (omega (arith, h))
    (ends_object k x n at true (behind ts) (omega (arith, le, h)))
ends_body_by k B.Enum x n at tok ts le = ends_then _ (ends_members k x n ts (omega (arith, le))) (λ members rest lt. e_read (omega (arith, lt)))
ends_body_by k B.Distinct x n at tok ts le = ends_unless (stays (Lines n) ts) ts
    (ends_then _ (ends_written k x (Lines n) ts (omega (arith, le))) (λ a rest lt. e_read (omega (arith, lt))))
ends_body_by k B.Alias x n at tok ts le = ends_then _ (ends_written k x (Lines n) (tok ∷ ts) (omega (arith, le))) (λ a rest lt. e_read lt)

ends_body : (k : ℕ) (x : Origin) (n : ℕ) (ts : List Token) → 64 * length ts + 41 ≤ k → Ends (length ts) (run_body k x n ts)
ends_body k x n [] le = e_not tt
ends_body k x n (tok ∷ ts) le = ends_body_by k (body_lead (Lines n) (tok ∷ ts)) x n (place_at x tok) tok ts le

ends_declaration : (k : ℕ) (x : Origin) (first : Layout) (n : ℕ) (ts : List Token) → 64 * length ts + 41 ≤ k → Ends (length ts) (run_declaration k x first n ts)
ends_declaration k x first n ts le =
    ends_then _ (ends_declared x first (Lines n) ts) (λ name a la.
    ends_then _ (ends_generics k x (Lines n) a (omega (arith, le, la))) (λ parameters b lb.
    let h = behind_within b in
    ends_unless (equals_at (Lines n) b) b (
    ends_unless (stays (Lines n) (behind b)) (behind b) (
    ends_then _ (ends_body k x n (behind b) (omega (arith, le, la, lb, h))) (λ body rest lt. e_read (omega (arith, la, lb, h, lt)))))))

ends_declarations : (k : ℕ) (x : Origin) (n : ℕ) (some : List Declaration) (ts : List Token) → 64 * length ts + 42 ≤ k
    → Ends (suc (length ts)) (run_declarations k x n some ts)
ends_declarations zero x n some ts le = absurd (omega (arith, le))
ends_declarations (suc k) x n some ts le =
    ends_if (stands_at n ts) (ends_then _ (ends_declaration k x Brackets n ts (omega (arith, le)))
    (λ one mid lt. wider (omega (arith, lt)) (ends_declarations k x n (some ++ one ∷ []) mid (omega (arith, le, lt))))) (e_read (omega arith))

pub ends_types : (k : ℕ) (x : Origin) (n : ℕ) (ts : List Token) → 64 * length ts + 42 ≤ k → Ends (suc (length ts)) (run_types k x n ts)
ends_types k x n ts le =
    ends_if (deeper_at n ts) (ends_declarations k x (level_at ts) [] ts le)
    (ends_then _ (ends_declaration k x (Lines n) n ts (omega (arith, le))) (λ one rest lt. e_read (omega (arith, lt))))

-- ---- heads of procedures

ends_param : (k : ℕ) (x : Origin) (ts : List Token) → 64 * length ts + 40 ≤ k → Ends (length ts) (run_param k x ts)
ends_param k x ts le =
    ends_then _ (ends_names k x Brackets ts (omega (arith, le))) (λ names mid lt.
    let h = behind_within mid in
    let g = mode_within x (behind mid) in
    ends_unless (colon_at Brackets mid) mid (
    ends_then _ (ends_written k x Brackets (past_mode x (behind mid)) (omega (arith, le, lt, h, g))) (λ a rest less. e_read (omega (arith, lt, h, g, less)))))

ends_more_params : (k : ℕ) (x : Origin) (some : List Parameters) (ts : List Token) → 64 * length ts + 41 ≤ k
    → Ends (suc (length ts)) (run_more_params k x some ts)
ends_more_params zero x some ts le = absurd (omega (arith, le))
ends_more_params (suc k) x some ts le =
    let h = behind_within ts in
    ends_if (separator_at ts) (ends_then _ (ends_param k x (behind ts) (omega (arith, le, h)))
    (λ one mid lt. wider (omega (arith, lt, h)) (ends_more_params k x (some ++ one ∷ []) mid (omega (arith, le, lt, h)))))
    (ends_unless (closes_at Round ts) ts (e_read (omega (arith, h))))

ends_params : (k : ℕ) (x : Origin) (i : Layout) (ts : List Token) → 64 * length ts + 41 ≤ k → Ends (suc (length ts)) (run_params k x i ts)
ends_params k x i ts le =
    let h = behind_within ts in
    let g = behind_within (behind ts) in
    ends_if (opens_at i Round ts) (
    ends_if (closes_at Round (behind ts)) (e_read (omega (arith, h, g))) (
    ends_then _ (ends_param k x (behind ts) (omega (arith, le, h)))
    (λ one mid lt. wider (omega (arith, lt, h)) (ends_more_params k x (one ∷ []) mid (omega (arith, le, lt, h))))))
    (e_read (omega arith))

ends_proc_name : (x : Origin) (i : Layout) (ts : List Token) → Ends (length ts) (run_shown x i (proc_name_on i ts) ts)
ends_proc_name x i [] = e_not tt
ends_proc_name x i (tok ∷ ts) = ends_shown x i (proc_name_on i (tok ∷ ts)) tok ts

pub ends_head : (k : ℕ) (x : Origin) (i : Layout) (ts : List Token) → 64 * length ts + 41 ≤ k → Ends (length ts) (run_head k x i ts)
ends_head k x i ts le =
    ends_then _ (ends_proc_name x i ts) (λ name a la.
    ends_then _ (ends_generics k x i a (omega (arith, le, la))) (λ generics b lb.
    ends_then _ (ends_params k x i b (omega (arith, le, la, lb))) (λ params c lc.
    ends_then _ (ends_annotation k x i c (omega (arith, le, la, lb, lc))) (λ gives d ld.
    ends_then _ (ends_pragmas k x i d (omega (arith, le, la, lb, lc, ld))) (λ pragmas rest lt. e_read (omega (arith, la, lb, lc, ld, lt)))))))
