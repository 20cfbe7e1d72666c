-- What the grammar says of statements with blocks is read.
use Rattle.std.proofs.Common.{◌≡◌, ℕ, ◌≤◌, List, [], ◌∷◌, true, false, refl, sym, subst}
use Rattle.arc_base.specs.declared.place.Place.{Place}
use Rattle.indent_scanner.specs.declared.token.Token.{Token}
use Rattle.nim_tree.specs.Terms.{Term, levels, place_of}
use Rattle.nim_tree.specs.Statements.{Statement, evaluates, selects, Statements, Branches, Handlers, and_statement}
use Rattle.parse_exprs.specs.declared.layout.Layout.TheVariants.{Lines}
use Rattle.parse_exprs.specs.Look.{Origin, place_at, branch_at, is_elif, is_of}
use Rattle.parse_decls.specs.Outcome.{Out, got, Settles}
use Rattle.parse_decls.specs.Grammar.{e_first}
use Rattle.parse_decls.proofs.ForCallers.{settles_got, settles_then, settles_unless, settles_if, settles_else}
use Rattle.parse_stmts.specs.declared.look.Lead.{Lead}
use Rattle.parse_stmts.specs.declared.look.Lead.TheVariants as L
use Rattle.parse_stmts.specs.Look.{chooses, lead, is_except}
use Rattle.parse_stmts.specs.Alone.{IsAlone, NotAlone}
use Rattle.parse_stmts.specs.Run.{Caught, run_statements, run_statement, run_led, run_compound, run_body, run_block, run_branch, run_elifs, run_else}
use Rattle.parse_stmts.specs.Run.{run_branches, run_of, run_ofs, run_handler, run_handlers, run_finally, run_module}
use Rattle.parse_stmts.specs.Grammar.{AreStatements, s_over, s_next, IsStatement, s_line, s_alone, s_choice, s_compound, IsCompound, c_if, c_case, c_while}
use Rattle.parse_stmts.specs.Grammar.{c_for, c_try, c_defer, c_proc, c_forward, c_type, c_section, IsBody, b_body, IsBlock, b_line, b_deeper, IsBranch}
use Rattle.parse_stmts.specs.Grammar.{r_branch, MoreElifs, r_over, r_elif, IsElse, r_no_else, r_else, AreBranches, r_branches, IsOf, r_of, MoreOfs, r_last}
use Rattle.parse_stmts.specs.Grammar.{r_next, IsHandler, h_bare, h_typed, MoreHandlers, h_over, h_last, h_next, IsFinally, h_no_finally, h_finally, IsModule}
use Rattle.parse_stmts.proofs.Means.{settles_next}
use Rattle.parse_stmts.proofs.OnlyExpr.{alone_read, alone_none}
use Rattle.parse_stmts.proofs.Leaves.{Laws}
use Rattle.parse_stmts.proofs.LeavesComplete.{settles_at, here_read, line_read, label_read, labels_read, course_read, alias_read}
use Rattle.parse_stmts.proofs.Reading.{HasBlocks}

-- an `if` or `case` is no expression that is alone on its line
abbrev pub BeginsBlocks : Lead → Origin → ℕ → List Token → Type 0
BeginsBlocks L.If x n ts = NotAlone x n ts
BeginsBlocks L.Case x n ts = NotAlone x n ts
BeginsBlocks _ x n ts = Unit {0}

pub with_blocks : (it : Lead) (x : Origin) (n : ℕ) (ts : List Token) → NotAlone x n ts → BeginsBlocks it x n ts
with_blocks L.If x n ts w = w
with_blocks L.Case x n ts w = w
with_blocks _ x n ts w = tt

pub no_choice : (it : Lead) (x : Origin) (n : ℕ) (ts : List Token) → chooses it ≡ false → BeginsBlocks it x n ts
no_choice L.If x n ts c = cc
no_choice L.Case x n ts c = cc
no_choice _ x n ts c = tt

-- a statement with blocks is read as one more statement
pub led_read : {x : Origin} {n left : ℕ} {tok : Token} {ts rest : List Token} {s : Statement} (it : Lead) (some : Statements) → HasBlocks it
    → BeginsBlocks (lead n tok ts) x n (tok ∷ ts) → lead n tok ts ≡ it
    → Settles (λ k. run_compound k it x n left tok ts) (got s rest) → Settles (λ k. run_statement k x n left some (tok ∷ ts)) (got (and_statement some s) rest)
led_read L.Line some b w e h = absurd b
led_read {x} {n} {left} {tok} {ts} L.If some b w e h =
    settles_next
    (settles_at (λ it k. run_led k it x n left some tok ts) e
    (settles_next (settles_then _ (alone_none (subst (λ (l : Lead). BeginsBlocks l x n (tok ∷ ts)) e w))
    (settles_next (settles_then _ h settles_got)))))
led_read {x} {n} {left} {tok} {ts} L.Case some b w e h =
    settles_next
    (settles_at (λ it k. run_led k it x n left some tok ts) e
    (settles_next (settles_then _ (alone_none (subst (λ (l : Lead). BeginsBlocks l x n (tok ∷ ts)) e w))
    (settles_next (settles_then _ h settles_got)))))
led_read {x} {n} {left} {tok} {ts} it some b w e h =
    settles_next (settles_at (λ it k. run_led k it x n left some tok ts) e (settles_next (settles_then _ h settles_got)))

selected_at : {f : ℕ → Out Statement} {p q : Place} {a : Term} {all : Branches} {other : Statements} {rest : List Token} → p ≡ q
    → Settles f (got (selects q a all other) rest) → Settles f (got (selects p a all other) rest)
selected_at {f} {a = a} {all = all} {other = other} {rest = rest} e h = subst (λ (p : Place). Settles f (got (selects p a all other) rest)) (sym e) h

-- and one that is an expression, as that
led_alone : {x : Origin} {n left : ℕ} {a : Term} {tok : Token} {ts rest : List Token} (it : Lead) (some : Statements) → chooses it ≡ true → lead n tok ts ≡ it
    → IsAlone x n a (tok ∷ ts) rest → levels a ≤ 64
    → Settles (λ k. run_statement k x n left some (tok ∷ ts)) (got (and_statement some (evaluates (place_of a) a)) rest)
led_alone {x} {n} {left} {tok = tok} {ts = ts} L.If some c e d few =
    settles_next (settles_at (λ it k. run_led k it x n left some tok ts) e (settles_next (settles_then _ (alone_read d few) (settles_next settles_got))))
led_alone {x} {n} {left} {tok = tok} {ts = ts} L.Case some c e d few =
    settles_next (settles_at (λ it k. run_led k it x n left some tok ts) e (settles_next (settles_then _ (alone_read d few) (settles_next settles_got))))
led_alone _ some c e d few = cc

pub elifs_over : (x : Origin) (n left : ℕ) (some : Branches) (ts : List Token) → branch_at (Lines n) is_elif ts ≡ false
    → Settles (λ k. run_elifs k x n left some ts) (got some ts)
elifs_over x n left some [] e = settles_next settles_got
elifs_over x n left some (tok ∷ ts) e = settles_next (settles_else _ e settles_got)

pub ofs_over : (x : Origin) (n left : ℕ) (some : Branches) (ts : List Token) → branch_at (Lines n) is_of ts ≡ false → Settles (λ k. run_ofs k x n left some ts)
    (got some ts)
ofs_over x n left some [] e = settles_next settles_got
ofs_over x n left some (tok ∷ ts) e = settles_next (settles_else _ e settles_got)

pub handlers_over : (x : Origin) (n left : ℕ) (some : Handlers) (ts : List Token) → branch_at (Lines n) is_except ts ≡ false
    → Settles (λ k. run_handlers k x n left some ts) (got some ts)
handlers_over x n left some [] e = settles_next settles_got
handlers_over x n left some (tok ∷ ts) e = settles_next (settles_else _ e settles_got)

mutual
  pub statements_read : {x : Origin} {n left : ℕ} {some all : Statements} {ts rest : List Token} → Laws → AreStatements x n left some all ts rest
      → Settles (λ k. run_statements k x n left some ts) (got all rest)
  statements_read law (s_over e h) = settles_next (settles_else _ e (settles_unless _ h settles_got))
  statements_read law (s_next e d m) = settles_next (settles_if _ e (settles_then _ (statement_read law d) (statements_read law m)))

  pub statement_read : {x : Origin} {n left : ℕ} {some all : Statements} {ts rest : List Token} → Laws → IsStatement x n left some all ts rest
      → Settles (λ k. run_statement k x n left some ts) (got all rest)
  statement_read {x} {n} {left} law (s_line {some = some} {tok = tok} {ts = ts} e d) =
      settles_next (settles_at (λ it k. run_led k it x n left some tok ts) e (settles_next (line_read law d)))
  statement_read law (s_alone {some = some} c d few) = led_alone _ some c refl d few
  statement_read {x} {n} law (s_choice {some = some} {tok = tok} {ts = ts} c w d) = compound_read law some (with_blocks (lead n tok ts) x n (tok ∷ ts) w) d
  statement_read {x} {n} law (s_compound {some = some} {tok = tok} {ts = ts} c d) = compound_read law some (no_choice (lead n tok ts) x n (tok ∷ ts) c) d

  compound_read : {x : Origin} {n left : ℕ} {s : Statement} {tok : Token} {ts rest : List Token} → Laws → (some : Statements)
      → BeginsBlocks (lead n tok ts) x n (tok ∷ ts)
      → IsCompound x n left s (tok ∷ ts) rest → Settles (λ k. run_statement k x n left some (tok ∷ ts)) (got (and_statement some s) rest)
  compound_read law some w (c_if e b m o) =
      led_read L.If some tt w e
      (settles_next (settles_next (settles_then _ (branch_read law b) (settles_then _ (elifs_read law m) (settles_then _ (else_read law o) settles_got)))))
  compound_read law some w (c_case e h d) =
      led_read L.Case some tt w e (settles_next (settles_next (settles_then _ (here_read law h) (branches_read law _ refl d))))
  compound_read law some w (c_while e h d) =
      led_read L.While some tt w e (settles_next (settles_then _ (here_read law h) (settles_then _ (body_read law d) settles_got)))
  compound_read law some w (c_for e h g c d) =
      led_read L.For some tt w e
      (settles_next
      (settles_then _ ((law.name _ _).complete _ _ _ h)
      (settles_unless _ g (settles_then _ (course_read law c) (settles_then _ (body_read law d) settles_got)))))
  compound_read law some w (c_try e b m f g) =
      led_read L.Try some tt w e
      (settles_next
      (settles_next
      (settles_then _ (body_read law b)
      (settles_then _ (handlers_read law m) (settles_then _ (finally_read law f) (settles_unless _ g settles_got))))))
  compound_read law some w (c_defer e d) = led_read L.Defer some tt w e (settles_next (settles_then _ (body_read law d) settles_got))
  compound_read law some w (c_proc e h g b) =
      led_read L.Proc some tt w e
      (settles_next (settles_next (settles_then _ ((law.head _ _).complete _ _ _ h) (settles_if _ g (settles_then _ (block_read law b) settles_got)))))
  compound_read law some w (c_forward e h g) =
      led_read L.Proc some tt w e (settles_next (settles_next (settles_then _ ((law.head _ _).complete _ _ _ h) (settles_else _ g settles_got))))
  compound_read law some w (c_type e d) = led_read L.Type some tt w e (settles_next (settles_then _ ((law.types _ _).complete _ _ _ d) settles_got))
  compound_read law some w (c_section e d) = led_read L.Section some tt w e (settles_next (settles_then _ ((law.definitions _ _).complete _ _ _ d) settles_got))

  pub body_read : {x : Origin} {n left : ℕ} {body : Statements} {ts rest : List Token} → Laws → IsBody x n left body ts rest
      → Settles (λ k. run_body k x n left ts) (got body rest)
  body_read law (b_body e d) = settles_next (settles_unless _ e (block_read law d))

  pub block_read : {x : Origin} {n left : ℕ} {body : Statements} {ts rest : List Token} → Laws → IsBlock x n left body ts rest
      → Settles (λ k. run_block k x n left ts) (got body rest)
  block_read law (b_line e d) = settles_next (settles_if _ e (line_read law d))
  block_read law (b_deeper e h d) = settles_next (settles_else _ e (settles_unless _ h (statements_read law d)))

  pub branch_read : {x : Origin} {n left : ℕ} {some all : Branches} {at : Place} {ts rest : List Token} → Laws → IsBranch x n left some at all ts rest
      → Settles (λ k. run_branch k x n left some at ts) (got all rest)
  branch_read law (r_branch h d) = settles_next (settles_then _ (here_read law h) (settles_then _ (body_read law d) settles_got))

  pub elifs_read : {x : Origin} {n left : ℕ} {some all : Branches} {ts rest : List Token} → Laws → MoreElifs x n left some all ts rest
      → Settles (λ k. run_elifs k x n left some ts) (got all rest)
  elifs_read law (r_over e) = elifs_over _ _ _ _ _ e
  elifs_read law (r_elif e d m) = settles_next (settles_if _ e (settles_then _ (branch_read law d) (elifs_read law m)))

  pub else_read : {x : Origin} {n left : ℕ} {body : Statements} {ts rest : List Token} → Laws → IsElse x n left body ts rest
      → Settles (λ k. run_else k x n left ts) (got body rest)
  else_read law (r_no_else e) = settles_next (settles_else _ e settles_got)
  else_read law (r_else e d) = settles_next (settles_if _ e (body_read law d))

  branches_read : {x : Origin} {n left : ℕ} {at : Place} {a : Term} {s : Statement} {mid rest : List Token} → Laws → (tok : Token) → at ≡ place_at x tok
      → AreBranches x n left at a s mid rest → Settles (λ k. run_branches k x n left tok a mid) (got s rest)
  branches_read law tok q (r_branches e m o) =
      settles_next (settles_unless _ e (settles_then _ (ofs_read law m) (settles_then _ (else_read law o) (selected_at q settles_got))))

  pub of_read : {x : Origin} {n left : ℕ} {some all : Branches} {at : Place} {ts rest : List Token} → Laws → IsOf x n left some at all ts rest
      → Settles (λ k. run_of k x n left some at ts) (got all rest)
  of_read law (r_of e d m b) =
      settles_next (settles_unless _ e (settles_then _ (label_read law d) (settles_then _ (labels_read law m) (settles_then _ (body_read law b) settles_got))))

  pub ofs_read : {x : Origin} {n left : ℕ} {some all : Branches} {ts rest : List Token} → Laws → MoreOfs x n left some all ts rest
      → Settles (λ k. run_ofs k x n left some ts) (got all rest)
  ofs_read law (r_last e) = ofs_over _ _ _ _ _ e
  ofs_read law (r_next e d m) = settles_next (settles_if _ e (settles_then _ (of_read law d) (ofs_read law m)))

  pub handler_read : {x : Origin} {n left : ℕ} {one : Caught} {ts rest : List Token} → Laws → IsHandler x n left one ts rest
      → Settles (λ k. run_handler k x n left ts) (got one rest)
  handler_read law (h_bare c b) = settles_next (settles_then _ (settles_if _ c settles_got) (settles_then _ (body_read law b) settles_got))
  handler_read law (h_typed c (e_first f t) l b) =
      settles_next (settles_then _ (settles_else _ c ((law.names _ _).complete _ _ _ (e_first f t)))
      (settles_then _ (alias_read law l) (settles_then _ (body_read law b) settles_got)))

  pub handlers_read : {x : Origin} {n left : ℕ} {some all : Handlers} {ts rest : List Token} → Laws → MoreHandlers x n left some all ts rest
      → Settles (λ k. run_handlers k x n left some ts) (got all rest)
  handlers_read law (h_over e) = handlers_over _ _ _ _ _ e
  handlers_read law (h_last e h g) = settles_next (settles_if _ e (settles_then _ (handler_read law h) (settles_else _ g settles_got)))
  handlers_read law (h_next e h g m) = settles_next (settles_if _ e (settles_then _ (handler_read law h) (settles_if _ g (handlers_read law m))))

  pub finally_read : {x : Origin} {n left : ℕ} {body : Statements} {ts rest : List Token} → Laws → IsFinally x n left body ts rest
      → Settles (λ k. run_finally k x n left ts) (got body rest)
  finally_read law (h_no_finally e) = settles_next (settles_else _ e settles_got)
  finally_read law (h_finally e d) = settles_next (settles_if _ e (body_read law d))

pub module_is_read : {x : Origin} {tokens : List Token} {all : Statements} → Laws → (d : IsModule x tokens all)
    → Settles (λ k. run_module k x tokens) (got all d.rest)
module_is_read law d = settles_then _ (statements_read law d.reads) (settles_unless _ d.whole settles_got)
