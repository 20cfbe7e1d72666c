-- What is read of statements with blocks means what the grammar says.
use Rattle.std.proofs.Common.{◌≡◌, ℕ, zero, suc, List, [], ◌∷◌, Bool, true, false, refl, ap, ◌∙◌}
use Rattle.std.specs.Prelude.{Option, if◌then◌else◌}
use Rattle.arc_base.specs.declared.place.Place.{Place}
use Rattle.indent_scanner.specs.declared.token.Token.{Token}
use Rattle.nim_tree.specs.declared.name.Name.{Name}
use Rattle.nim_tree.specs.Terms.{Term, no_parts, part}
use Rattle.nim_tree.specs.Statements.{Statements, empty, Branches, no_branches, Handlers, no_handlers}
use Rattle.parse_exprs.specs.declared.layout.Layout.TheVariants.{Lines}
use Rattle.parse_exprs.specs.Look.{Origin, place_at, colon_at, past_colon}
use Rattle.parse_decls.specs.Look.{behind, stands_at, level_at}
use Rattle.parse_decls.specs.Outcome.{Why, too_deep, stuck_at, got, bad, then_do}
use Rattle.parse_decls.specs.Grammar.{e_first, Names}
use Rattle.parse_decls.specs.Faults.{FaultsNames}
use Rattle.parse_stmts.specs.declared.look.Lead.{Lead}
use Rattle.parse_stmts.specs.declared.look.Lead.TheVariants as L
use Rattle.parse_stmts.specs.Look.{chooses, opens_block, lead}
use Rattle.parse_stmts.specs.Run.{run_types_of, run_binding, are_some, and_caught, branch_level, run_choice, run_statements, run_statement, run_led}
use Rattle.parse_stmts.specs.Run.{run_compound, run_body, run_block, run_if, run_branch, run_elifs, run_else, run_case, run_branches, run_of, run_ofs, run_try}
use Rattle.parse_stmts.specs.Run.{run_handler, run_handlers, run_finally, run_proc, run_module}
use Rattle.parse_stmts.specs.Grammar.{AreStatements, s_over, s_next, IsStatement, s_line, s_alone, s_choice, s_compound, IsCompound, c_if, c_case, c_while}
use Rattle.parse_stmts.specs.Grammar.{c_for, c_try, c_defer, c_proc, c_forward, c_type, c_section, IsBody, b_body, IsBlock, b_line, b_deeper, IsBranch}
use Rattle.parse_stmts.specs.Grammar.{r_branch, MoreElifs, r_over, r_elif, IsElse, r_no_else, r_else, AreBranches, r_branches, IsOf, r_of, MoreOfs, r_last}
use Rattle.parse_stmts.specs.Grammar.{r_next, MoreHandlers, h_over, IsHandler, h_bare, h_typed, h_last, h_next, IsFinally, h_no_finally, h_finally, IsModule}
use Rattle.parse_stmts.specs.Faults as F
use Rattle.parse_stmts.specs.Faults.{FaultsStatements, FaultsStatement, FaultsCompound, FaultsBody, FaultsBlock, FaultsBranch, FaultsElifs, FaultsElse}
use Rattle.parse_stmts.specs.Faults.{FaultsBranches, FaultsOf, FaultsOfs, FaultsHandler, FaultsHandlers, FaultsFinally, FaultsModule}
use Rattle.parse_stmts.proofs.Means.{Means, m_got, m_bad, m_tired, means_map, means_then, means_unless, means_if}
use Rattle.parse_stmts.proofs.OnlyExpr.{Finds, d_alone, d_none, means_alone}
use Rattle.parse_stmts.proofs.Leaves.{Laws, means_here, means_line, means_label, means_labels, means_course, means_alias}

-- one with blocks
abbrev pub HasBlocks : Lead → Type 0
HasBlocks L.Line = ⊥
HasBlocks _ = Unit {0}

means_no_level : (x : Origin) (n : ℕ) (ts : List Token) (b : Bool) → opens_block x n ts ≡ b
    → Means (λ body rest. IsBlock x n zero body ts rest) (λ why. FaultsBlock x why n zero ts) (bad (if b then too_deep ts else stuck_at ts))
means_no_level x n ts true e = m_bad (F.f_no_level e refl)
means_no_level x n ts false e = m_bad (F.f_no_start e refl)

-- ---- handlers

-- the exception types of a handler, or none
data Types (x : Origin) (n : ℕ) (ts : List Token) : List Name → List Token → Type 0 where
  y_bare : colon_at (Lines n) ts ≡ true → Types x n ts [] ts
  y_some : {names : List Name} {rest : List Token} → colon_at (Lines n) ts ≡ false → Names x (Lines n) names ts rest → Types x n ts names rest

-- or where they can't go on
record FaultsTypes (x : Origin) (n : ℕ) (why : Why) (ts : List Token) : Type 0 where
  some : colon_at (Lines n) ts ≡ false
  at : FaultsNames x (Lines n) why ts

means_types_of : (law : Laws) (k : ℕ) (x : Origin) (n : ℕ) (ts : List Token) → Means (λ names rest. Types x n ts names rest) (λ why. FaultsTypes x n why ts)
    (run_types_of k x n ts)
means_types_of law k x n ts =
    means_if _ (λ e. m_got (y_bare e)) (λ e. means_map ((law.names x n).means k ts) (λ names rest d. y_some e d) (λ why w. record { some = e; at = w }))

means_caught : (law : Laws) (k : ℕ) (x : Origin) (n left : ℕ) (ts : List Token) (names : List Name) (a : List Token)
    → ((ts : List Token) → Means (λ body rest. IsBody x n left body ts rest) (λ why. FaultsBody x why n left ts) (run_body k x n left ts))
    → Types x n ts names a
    → Means (λ one rest. IsHandler x n left one ts rest) (λ why. FaultsHandler x why n left ts)
    (then_do (run_binding (are_some names) x n a) (λ binding b.
    then_do (run_body k x n left b) (λ block rest.
    got (record { names = names; binding = binding; body = block }) rest)))
means_caught law k x n left ts _ _ bodies (y_bare c) = means_then (bodies ts) (λ body rest b. m_got (h_bare c b)) (λ why w. F.f_bare c w)
means_caught law k x n left ts _ a bodies (y_some c (e_first f t)) =
    means_then (means_alias law x n a)
    (λ alias b l. means_then (bodies b) (λ body rest h. m_got (h_typed c (e_first f t) l h)) (λ why w. F.f_handler_body c (e_first f t) l w))
    (λ why w. F.f_alias c (e_first f t) w)

-- ---- statements

mutual
  pub means_statements : (law : Laws) (k : ℕ) (x : Origin) (n left : ℕ) (some : Statements) (ts : List Token)
      → Means (λ all rest. AreStatements x n left some all ts rest) (λ why. FaultsStatements x why n left ts) (run_statements k x n left some ts)
  means_statements law zero x n left some ts = m_tired
  means_statements law (suc k) x n left some ts =
      means_if _ (λ e. means_then (means_statement law k x n left some ts e)
      (λ more mid d. means_map (means_statements law k x n left more mid) (λ all rest m. s_next e d m) (λ why w. F.f_next_statement e d w))
      (λ why w. F.f_statement e w))
      (λ e. means_unless _ _ (λ h. m_got (s_over e h)) (λ h. F.f_no_end e h refl))

  means_statement : (law : Laws) (k : ℕ) (x : Origin) (n left : ℕ) (some : Statements) (ts : List Token) → stands_at n ts ≡ true
      → Means (λ all rest. IsStatement x n left some all ts rest) (λ why. FaultsStatement x why n left ts) (run_statement k x n left some ts)
  means_statement law zero x n left some ts h = m_tired
  means_statement law (suc k) x n left some [] h = cc
  means_statement law (suc k) x n left some (tok ∷ ts) h = means_led law k (lead n tok ts) x n left some tok ts refl

  means_led : (law : Laws) (k : ℕ) (it : Lead) (x : Origin) (n left : ℕ) (some : Statements) (tok : Token) (ts : List Token) → lead n tok ts ≡ it
      → Means (λ all rest. IsStatement x n left some all (tok ∷ ts) rest) (λ why. FaultsStatement x why n left (tok ∷ ts)) (run_led k it x n left some tok ts)
  means_led law zero it x n left some tok ts e = m_tired
  means_led law (suc k) L.Line x n left some tok ts e = means_map (means_line law k x n some (tok ∷ ts)) (λ all rest d. s_line e d) (λ why w. F.f_one_line e w)
  means_led law (suc k) L.If x n left some tok ts e =
      means_then (means_alone k x n (tok ∷ ts)) (λ found mid d. means_found law k L.If x n left some tok ts e refl tt found mid d)
      (λ why w. F.f_alone (ap chooses e) w.is w.deep w.at)
  means_led law (suc k) L.Case x n left some tok ts e =
      means_then (means_alone k x n (tok ∷ ts)) (λ found mid d. means_found law k L.Case x n left some tok ts e refl tt found mid d)
      (λ why w. F.f_alone (ap chooses e) w.is w.deep w.at)
  means_led law (suc k) it x n left some tok ts e = means_then (means_compound law k it x n left tok ts e tt) (λ s rest d. m_got (s_compound (ap chooses e) d))
      (λ why w. F.f_compound (ap chooses e) w)

  means_found : (law : Laws) (k : ℕ) (it : Lead) (x : Origin) (n left : ℕ) (some : Statements) (tok : Token) (ts : List Token) → lead n tok ts ≡ it
      → chooses it ≡ true → HasBlocks it
      → (found : Option Term) (mid : List Token) → Finds x n (tok ∷ ts) found mid
      → Means (λ all rest. IsStatement x n left some all (tok ∷ ts) rest) (λ why. FaultsStatement x why n left (tok ∷ ts))
      (run_choice k found it x n left some tok ts mid)
  means_found law zero it x n left some tok ts e c b found mid d = m_tired
  means_found law (suc k) it x n left some tok ts e c b _ _ (d_alone d few) = m_got (s_alone (ap chooses e ∙ c) d few)
  means_found law (suc k) it x n left some tok ts e c b _ _ (d_none d) =
      means_then (means_compound law k it x n left tok ts e b) (λ s rest m. m_got (s_choice (ap chooses e ∙ c) d m))
      (λ why w. F.f_choice (ap chooses e ∙ c) d w)

  means_compound : (law : Laws) (k : ℕ) (it : Lead) (x : Origin) (n left : ℕ) (tok : Token) (ts : List Token) → lead n tok ts ≡ it → HasBlocks it
      → Means (λ s rest. IsCompound x n left s (tok ∷ ts) rest) (λ why. FaultsCompound x why n left (tok ∷ ts)) (run_compound k it x n left tok ts)
  means_compound law zero it x n left tok ts e b = m_tired
  means_compound law (suc k) L.Line x n left tok ts e b = absurd b
  means_compound law (suc k) L.If x n left tok ts e b = means_conditional law k x n left tok ts e
  means_compound law (suc k) L.Case x n left tok ts e b = means_case law k x n left tok ts e
  means_compound law (suc k) L.While x n left tok ts e b =
      means_then (means_here law k x n ts) (λ c mid h. means_then (means_body law k x n left mid) (λ body rest d. m_got (c_while e h d))
      (λ why w. F.f_while_body e h w)) (λ why w. F.f_while e w)
  means_compound law (suc k) L.For x n left tok ts e b =
      means_then ((law.name x (Lines n)).means k ts)
      (λ name mid h. means_unless _ _
      (λ g. means_then (means_course law k x n (behind mid))
      (λ course end c. means_then (means_body law k x n left end) (λ body rest d. m_got (c_for e h g c d)) (λ why w. F.f_for_body e h g c w))
      (λ why w. F.f_course e h g w))
      (λ g. F.f_no_in e h g refl))
      (λ why w. F.f_for e w)
  means_compound law (suc k) L.Try x n left tok ts e b = means_try law k x n left tok ts e
  means_compound law (suc k) L.Defer x n left tok ts e b = means_then (means_body law k x n left ts) (λ body rest d. m_got (c_defer e d))
      (λ why w. F.f_defer e w)
  means_compound law (suc k) L.Proc x n left tok ts e b = means_proc law k x n left tok ts e
  means_compound law (suc k) L.Type x n left tok ts e b = means_then ((law.types x n).means k ts) (λ all rest d. m_got (c_type e d)) (λ why w. F.f_types e w)
  means_compound law (suc k) L.Section x n left tok ts e b = means_then ((law.definitions x n).means k ts) (λ all rest d. m_got (c_section e d))
      (λ why w. F.f_section e w)

  means_body : (law : Laws) (k : ℕ) (x : Origin) (n left : ℕ) (ts : List Token)
      → Means (λ body rest. IsBody x n left body ts rest) (λ why. FaultsBody x why n left ts) (run_body k x n left ts)
  means_body law zero x n left ts = m_tired
  means_body law (suc k) x n left ts =
      means_unless _ _ (λ e. means_map (means_block law k x n left (behind ts)) (λ body rest d. b_body e d) (λ why w. F.f_body e w)) (λ e. F.f_no_colon e refl)

  means_block : (law : Laws) (k : ℕ) (x : Origin) (n left : ℕ) (ts : List Token)
      → Means (λ body rest. IsBlock x n left body ts rest) (λ why. FaultsBlock x why n left ts) (run_block k x n left ts)
  means_block law zero x n left ts = m_tired
  means_block law (suc k) x n zero ts = means_no_level x n ts _ refl
  means_block law (suc k) x n (suc left) ts =
      means_if _ (λ e. means_map (means_line law k x n empty ts) (λ all rest d. b_line e d) (λ why w. F.f_line_block e w))
      (λ e. means_unless _ _
      (λ h. means_map (means_statements law k x (level_at ts) left empty ts) (λ all rest d. b_deeper e h d) (λ why w. F.f_deeper_block e h w))
      (λ h. F.f_no_block e h refl))

  -- ---- `if`

  means_conditional : (law : Laws) (k : ℕ) (x : Origin) (n left : ℕ) (tok : Token) (ts : List Token) → lead n tok ts ≡ L.If
      → Means (λ s rest. IsCompound x n left s (tok ∷ ts) rest) (λ why. FaultsCompound x why n left (tok ∷ ts)) (run_if k x n left tok ts)
  means_conditional law zero x n left tok ts e = m_tired
  means_conditional law (suc k) x n left tok ts e =
      means_then (means_branch law k x n left no_branches (place_at x tok) ts)
      (λ one mid b. means_then (means_elifs law k x n left one mid)
      (λ all end m. means_then (means_else law k x n left end)
      (λ other rest o. m_got (c_if e b m o))
      (λ why w. F.f_if_else e b m w))
      (λ why w. F.f_elifs e b w))
      (λ why w. F.f_if e w)

  means_branch : (law : Laws) (k : ℕ) (x : Origin) (n left : ℕ) (some : Branches) (at : Place) (ts : List Token)
      → Means (λ all rest. IsBranch x n left some at all ts rest) (λ why. FaultsBranch x why n left ts) (run_branch k x n left some at ts)
  means_branch law zero x n left some at ts = m_tired
  means_branch law (suc k) x n left some at ts =
      means_then (means_here law k x n ts) (λ c mid h. means_then (means_body law k x n left mid) (λ body rest d. m_got (r_branch h d))
      (λ why w. F.f_branch_body h w)) (λ why w. F.f_condition w)

  means_elifs : (law : Laws) (k : ℕ) (x : Origin) (n left : ℕ) (some : Branches) (ts : List Token)
      → Means (λ all rest. MoreElifs x n left some all ts rest) (λ why. FaultsElifs x why n left ts) (run_elifs k x n left some ts)
  means_elifs law zero x n left some ts = m_tired
  means_elifs law (suc k) x n left some [] = m_got (r_over refl)
  means_elifs law (suc k) x n left some (tok ∷ ts) =
      means_if _ (λ e. means_then (means_branch law k x n left some (place_at x tok) ts)
      (λ more mid d. means_map (means_elifs law k x n left more mid) (λ all rest m. r_elif e d m) (λ why w. F.f_next_elif e d w)) (λ why w. F.f_elif e w))
      (λ e. m_got (r_over e))

  means_else : (law : Laws) (k : ℕ) (x : Origin) (n left : ℕ) (ts : List Token)
      → Means (λ body rest. IsElse x n left body ts rest) (λ why. FaultsElse x why n left ts) (run_else k x n left ts)
  means_else law zero x n left ts = m_tired
  means_else law (suc k) x n left ts =
      means_if _ (λ e. means_map (means_body law k x n left (behind ts)) (λ body rest d. r_else e d) (λ why w. F.f_else e w)) (λ e. m_got (r_no_else e))

  -- ---- `case`

  means_case : (law : Laws) (k : ℕ) (x : Origin) (n left : ℕ) (tok : Token) (ts : List Token) → lead n tok ts ≡ L.Case
      → Means (λ s rest. IsCompound x n left s (tok ∷ ts) rest) (λ why. FaultsCompound x why n left (tok ∷ ts)) (run_case k x n left tok ts)
  means_case law zero x n left tok ts e = m_tired
  means_case law (suc k) x n left tok ts e =
      means_then (means_here law k x n ts)
      (λ a mid h. means_map (means_branches law k x n left tok a (past_colon (Lines n) mid)) (λ s rest d. c_case e h d) (λ why w. F.f_branches e h w))
      (λ why w. F.f_case e w)

  means_branches : (law : Laws) (k : ℕ) (x : Origin) (n left : ℕ) (tok : Token) (a : Term) (mid : List Token)
      → Means (λ s rest. AreBranches x n left (place_at x tok) a s mid rest) (λ why. FaultsBranches x why n left mid) (run_branches k x n left tok a mid)
  means_branches law zero x n left tok a mid = m_tired
  means_branches law (suc k) x n left tok a [] = m_bad (F.f_no_of refl refl)
  means_branches law (suc k) x n left tok a (first ∷ mid) =
      means_unless _ _
      (λ e. means_then (means_ofs law k x (branch_level n first.indent) left no_branches (first ∷ mid))
      (λ all end m. means_then (means_else law k x (branch_level n first.indent) left end)
      (λ other rest o. m_got (r_branches e m o))
      (λ why w. F.f_of_else e m w))
      (λ why w. F.f_ofs e w))
      (λ e. F.f_no_of e refl)

  means_of : (law : Laws) (k : ℕ) (x : Origin) (n left : ℕ) (some : Branches) (at : Place) (ts : List Token)
      → Means (λ all rest. IsOf x n left some at all ts rest) (λ why. FaultsOf x why n left ts) (run_of k x n left some at ts)
  means_of law zero x n left some at ts = m_tired
  means_of law (suc k) x n left some at ts =
      means_unless _ _
      (λ e. means_then (means_label law k x n ts)
      (λ a mid d. means_then (means_labels law k x n (part a no_parts) mid)
      (λ tests end m. means_then (means_body law k x n left end) (λ body rest b. m_got (r_of e d m b)) (λ why w. F.f_of_body e d m w))
      (λ why w. F.f_of_labels e d w))
      (λ why w. F.f_of_label e w))
      (λ e. F.f_of_line e refl)

  means_ofs : (law : Laws) (k : ℕ) (x : Origin) (n left : ℕ) (some : Branches) (ts : List Token)
      → Means (λ all rest. MoreOfs x n left some all ts rest) (λ why. FaultsOfs x why n left ts) (run_ofs k x n left some ts)
  means_ofs law zero x n left some ts = m_tired
  means_ofs law (suc k) x n left some [] = m_got (r_last refl)
  means_ofs law (suc k) x n left some (tok ∷ ts) =
      means_if _ (λ e. means_then (means_of law k x n left some (place_at x tok) ts)
      (λ more mid d. means_map (means_ofs law k x n left more mid) (λ all rest m. r_next e d m) (λ why w. F.f_next_of e d w)) (λ why w. F.f_of e w))
      (λ e. m_got (r_last e))

  -- ---- `try` and `proc`

  means_try : (law : Laws) (k : ℕ) (x : Origin) (n left : ℕ) (tok : Token) (ts : List Token) → lead n tok ts ≡ L.Try
      → Means (λ s rest. IsCompound x n left s (tok ∷ ts) rest) (λ why. FaultsCompound x why n left (tok ∷ ts)) (run_try k x n left tok ts)
  means_try law zero x n left tok ts e = m_tired
  means_try law (suc k) x n left tok ts e =
      means_then (means_body law k x n left ts)
      (λ body mid b. means_then (means_handlers law k x n left no_handlers mid)
      (λ all end m. means_then (means_finally law k x n left end)
      (λ last rest f. means_unless _ _ (λ g. m_got (c_try e b m f g)) (λ g. F.f_try_alone e b m f g refl))
      (λ why w. F.f_finally e b m w))
      (λ why w. F.f_handlers e b w))
      (λ why w. F.f_try e w)

  means_handler : (law : Laws) (k : ℕ) (x : Origin) (n left : ℕ) (ts : List Token)
      → Means (λ one rest. IsHandler x n left one ts rest) (λ why. FaultsHandler x why n left ts) (run_handler k x n left ts)
  means_handler law zero x n left ts = m_tired
  means_handler law (suc k) x n left ts =
      means_then (means_types_of law k x n ts) (λ names a d. means_caught law k x n left ts names a (λ ts. means_body law k x n left ts) d)
      (λ why w. F.f_names w.some w.at)

  means_handlers : (law : Laws) (k : ℕ) (x : Origin) (n left : ℕ) (some : Handlers) (ts : List Token)
      → Means (λ all rest. MoreHandlers x n left some all ts rest) (λ why. FaultsHandlers x why n left ts) (run_handlers k x n left some ts)
  means_handlers law zero x n left some ts = m_tired
  means_handlers law (suc k) x n left some [] = m_got (h_over refl)
  means_handlers law (suc k) x n left some (tok ∷ ts) =
      means_if _ (λ e. means_then (means_handler law k x n left ts)
      (λ one mid h. means_if _
      (λ g. means_map (means_handlers law k x n left (and_caught some (place_at x tok) one) mid) (λ all rest m. h_next e h g m)
      (λ why w. F.f_next_handler e h g w))
      (λ g. m_got (h_last e h g)))
      (λ why w. F.f_handler e w))
      (λ e. m_got (h_over e))

  means_finally : (law : Laws) (k : ℕ) (x : Origin) (n left : ℕ) (ts : List Token)
      → Means (λ body rest. IsFinally x n left body ts rest) (λ why. FaultsFinally x why n left ts) (run_finally k x n left ts)
  means_finally law zero x n left ts = m_tired
  means_finally law (suc k) x n left ts =
      means_if _ (λ e. means_map (means_body law k x n left (behind ts)) (λ body rest d. h_finally e d) (λ why w. F.f_finally_body e w))
      (λ e. m_got (h_no_finally e))

  means_proc : (law : Laws) (k : ℕ) (x : Origin) (n left : ℕ) (tok : Token) (ts : List Token) → lead n tok ts ≡ L.Proc
      → Means (λ s rest. IsCompound x n left s (tok ∷ ts) rest) (λ why. FaultsCompound x why n left (tok ∷ ts)) (run_proc k x n left tok ts)
  means_proc law zero x n left tok ts e = m_tired
  means_proc law (suc k) x n left tok ts e =
      means_then ((law.head x n).means k ts)
      (λ head mid h. means_if _ (λ g. means_then (means_block law k x n left (behind mid)) (λ body rest b. m_got (c_proc e h g b))
      (λ why w. F.f_proc_body e h g w)) (λ g. m_got (c_forward e h g)))
      (λ why w. F.f_head e w)

pub means_module : (law : Laws) (k : ℕ) (x : Origin) (ts : List Token) → Means (λ all rest. IsModule x ts all) (λ why. FaultsModule x why ts)
    (run_module k x ts)
means_module law k x ts =
    means_then (means_statements law k x (level_at ts) 64 empty ts)
    (λ all rest d. means_unless _ _ (λ e. m_got (record { rest = rest; reads = d; whole = e })) (λ e. F.f_rest d e refl)) (λ why w. F.f_statements w)
