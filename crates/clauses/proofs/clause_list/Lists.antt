-- Laws of the walk that writes a list: one list after another.
-- Assumes nothing.
use Prim.Native.Nat.{ℕ, ◌+◌, ◌≤◌, ◌<◌}
use mathlib.Core.Path.{◌≡◌, refl, sym, ap, ap₂, subst, ◌∙◌}
use mathlib.Core.List.{List, [], ◌∷◌, ◌++◌, append_assoc}
use lib.ListN.{length, get_or, drop, drop_of_length-le, length-append}
use lib.Seq.{sets, length-sets, drop-cons}
use native.Mathlib.Omega.{arith}
use native.Mathlib.Numerals.{add-one}
use Rattle.cells.specs.declared.TermPlace.{TermPlace}
use Rattle.cells.specs.Cell.{operands_of}
use Rattle.formulas.specs.declared.kinds.ConnectiveKind.{ConnectiveKind}
use Rattle.formulas.specs.declared.kinds.ConnectiveKind.TheVariants.{And}
use Rattle.formulas.specs.declared.view.NormalView.{NormalView}
use Rattle.formulas.specs.declared.view.NormalView.TheVariants.{Literal, Connective, Forall}
use Rattle.formulas.specs.Normal.{Normal}
use Rattle.formulas.specs.Clauses.{cnf, cnf_and, literal_total}
use Rattle.formulas.specs.Built.{normal_view, form_at}
use Rattle.formulas.specs.ClauseLists.{clause_places, literal_places, clause_ends}
use Rattle.clauses.specs.ClauseWalk.{clauses_at}
use Rattle.clauses.specs.ClauseList.{run_of, AskMore, AskLists, Filled, Adds}
use Rattle.formulas.proofs.Reading.{before-tail, read-literal, read-forall, read-connective, run-before, connective-within}
use Rattle.clauses.proofs.conjunctive_normal_form.Laws.{exact, counts-head, counts-tail, counts-operands}
use Rattle.clauses.proofs.clause_list.Laws.{Clauses, sets-join, places-total, ends-length}

-- ---- joined lists
total-join : (cs ds : Clauses) → literal_total (cs ++ ds) ≡ literal_total cs + literal_total ds
total-join [] ds = omega arith
total-join (c ∷ cs) ds = rw (total-join cs ds) (omega arith)

places-join : (cs ds : Clauses) → literal_places (cs ++ ds) ≡ literal_places cs ++ literal_places ds
places-join [] ds = refl
places-join (c ∷ cs) ds = rw (places-join cs ds) (sym (append_assoc (clause_places c) (literal_places cs) (literal_places ds)))

ends_join : (m : ℕ) (cs ds : Clauses) → clause_ends m (cs ++ ds) ≡ clause_ends m cs ++ clause_ends (m + literal_total cs) ds
ends_join m [] ds = let z : m ≡ m + 0 = omega arith in ap (λ (n : ℕ). clause_ends n ds) z
ends_join m (c ∷ cs) ds =
    let z : m + length c + literal_total cs ≡ m + (length c + literal_total cs) = omega arith in
    ap (λ (l : List ℕ). (m + length c) ∷ l) (ends_join (m + length c) cs ds ∙ ap (λ (n : ℕ). clause_ends (m + length c) cs ++ clause_ends n ds) z)

no-clause : (cs : Clauses) → length cs ≡ 0 → (literals ends : List ℕ) (f : Filled) → Adds cs literals ends f.clauses f.literals literals ends f
no-clause [] e literals ends f = record { ends-up-to = omega arith; literals-up-to = omega arith; literals-are = refl; ends-are = refl }
no-clause (c ∷ cs) e literals ends f = absurd (omega arith)

-- ---- the term at x, as it is read
module _ (tags values memo : List ℕ) (x : ℕ) (literals ends : List ℕ) (i at : ℕ)
    (ask : AskMore tags values memo (x ∷ []) (cnf (form_at tags values x)) literals ends i at) (v : NormalView) (is : v ≡ normal_view tags values x) where
  pub one-literal : v ≡ Literal → 1 ≡ length (cnf (form_at tags values x))
  one-literal e = sym (ap (λ (f : Normal (List ℕ) ℕ). length (cnf f)) (read-literal tags values x v is e))

  pub one-forall : (body : TermPlace) → v ≡ Forall body → 1 ≡ length (cnf (form_at tags values x))
  one-forall body e = sym (ap (λ (f : Normal (List ℕ) ℕ). length (cnf f)) (read-forall tags values x v is body e))

  module _ (b : ConnectiveKind) (e : v ≡ Connective b) where
    pub or-counted : (k : ℕ) → k ≡ clauses_at memo x → k ≡ length (cnf (form_at tags values x))
    or-counted k c = c ∙ exact tags values memo x [] ask.counted (connective-within tags values x v is b e) ask.clauses

    pub none_here : (k : ℕ) → k ≡ clauses_at memo x → k ≡ 0 → (f : Filled) → Adds (cnf (form_at tags values x)) literals ends f.clauses f.literals literals ends f
    none_here k c z f = no-clause (cnf (form_at tags values x)) (omega (arith, or-counted k c)) literals ends f

    module _ (t : b ≡ And) where
      and_is : cnf (form_at tags values x) ≡ cnf_and (run_of tags values (operands_of tags values x))
      and_is = rw (read-connective tags values x v is b e, t)

      pub and-ask : AskLists tags values memo x (operands_of tags values x) literals ends i at
      and-ask = record {
        ask = record {
          counted = counts-operands tags values memo x ask.counted (connective-within tags values x v is b e) b (sym e ∙ is);
          clauses = rw and_is at ask.clauses;
          clauses-room = rw and_is at ask.clauses-room;
          literals-small = rw and_is at ask.literals-small;
          literals_room = rw and_is at ask.literals_room;
        };
        before = run-before tags values x v is b e;
        within = connective-within tags values x v is b e;
      }

      pub and-added : (literals' ends' : List ℕ) (r : Filled) → Adds (cnf_and (run_of tags values (operands_of tags values x))) literals ends i at literals' ends' r
          → Adds (cnf (form_at tags values x)) literals ends i at literals' ends' r
      and-added literals' ends' r a = rw and_is a

-- ---- the run
module _ (tags values memo : List ℕ) (x u : ℕ) (us literals ends : List ℕ) (i at : ℕ) (ask : AskLists tags values memo x (u ∷ us) literals ends i at) where
  abbrev first : Clauses
  first = cnf (form_at tags values u)

  abbrev rest : Clauses
  rest = cnf_and (run_of tags values us)

  head-ask : AskMore tags values memo (u ∷ []) first literals ends i at
  head-ask =
      let n : length (first ++ rest) ≡ length first + length rest = length-append first rest in
      let m : literal_total (first ++ rest) ≡ literal_total first + literal_total rest = total-join first rest in
      record {
        counted = counts-head tags values memo u us ask.ask.counted;
        clauses = omega (arith, ask.ask.clauses);
        clauses-room = omega (arith, ask.ask.clauses-room);
        literals-small = omega (arith, ask.ask.literals-small);
        literals_room = omega (arith, ask.ask.literals_room);
      }

  module _ (literals₁ ends₁ : List ℕ) (f : Filled) (a : Adds first literals ends i at literals₁ ends₁ f) where
    tail-ask : AskLists tags values memo x us literals₁ ends₁ f.clauses f.literals
    tail-ask =
        let n : length (first ++ rest) ≡ length first + length rest = length-append first rest in
        let m : literal_total (first ++ rest) ≡ literal_total first + literal_total rest = total-join first rest in
        let l : length literals₁ ≡ length literals = ap length a.literals-are ∙ length-sets literals at (literal_places first) in
        let k : length ends₁ ≡ length ends = ap length a.ends-are ∙ length-sets ends i (clause_ends at first) in
        record {
          ask = record {
            counted = counts-tail tags values memo u us ask.ask.counted;
            clauses = omega (arith, ask.ask.clauses);
            clauses-room = omega (arith, ask.ask.clauses-room, a.ends-up-to);
            literals-small = omega (arith, ask.ask.literals-small, a.literals-up-to);
            literals_room = omega (arith, ask.ask.literals_room, a.literals-up-to);
          };
          before = before-tail x u us ask.before;
          within = ask.within;
        }

    both-added : (literals₂ ends₂ : List ℕ) (g : Filled) → Adds rest literals₁ ends₁ f.clauses f.literals literals₂ ends₂ g
        → Adds (first ++ rest) literals ends i at literals₂ ends₂ g
    both-added literals₂ ends₂ g b =
        let n : length (first ++ rest) ≡ length first + length rest = length-append first rest in
        let m : literal_total (first ++ rest) ≡ literal_total first + literal_total rest = total-join first rest in
        let zl : f.literals ≡ at + length (literal_places first) = a.literals-up-to ∙ ap (λ (n : ℕ). at + n) (sym (places-total first)) in
        let ze : f.clauses ≡ i + length (clause_ends at first) = a.ends-up-to ∙ ap (λ (n : ℕ). i + n) (sym (ends-length at first)) in
        record {
          ends-up-to = omega (arith, a.ends-up-to, b.ends-up-to);
          literals-up-to = omega (arith, a.literals-up-to, b.literals-up-to);
          literals-are = b.literals-are
              ∙ (ap₂ (λ (l : List ℕ) (n : ℕ). sets l n (literal_places rest)) a.literals-are zl
              ∙ (sets-join (literal_places first) (literal_places rest) literals at ∙ ap (λ (l : List ℕ). sets literals at l) (sym (places-join first rest))));
          ends-are = b.ends-are
              ∙ (ap₂ (λ (l : List ℕ) (n : ℕ). sets l n (clause_ends f.literals rest)) a.ends-are ze
              ∙ (sets-join (clause_ends at first) (clause_ends f.literals rest) ends i
              ∙ ap (λ (l : List ℕ). sets ends i l) (ap (λ (n : ℕ). clause_ends at first ++ clause_ends n rest) a.literals-up-to ∙ sym (ends_join at first rest))));
        }

-- the walk along a run, at k: what is left is asked for, and writing it completes the whole
pub record ListsLeft (tags values memo : List ℕ) (x : ℕ) (run literals₀ ends₀ : List ℕ) (from : Filled) (literals ends : List ℕ) (f : Filled) (k : ℕ) : Type 0 where
  pub ask : AskLists tags values memo x (drop k run) literals ends f.clauses f.literals
  pub then : (literals' ends' : List ℕ) (g : Filled) → Adds (cnf_and (run_of tags values (drop k run))) literals ends f.clauses f.literals literals' ends' g
      → Adds (cnf_and (run_of tags values run)) literals₀ ends₀ from.clauses from.literals literals' ends' g

module _ (tags values memo : List ℕ) (x : ℕ) (run literals₀ ends₀ : List ℕ) (from : Filled) (literals ends : List ℕ) (f : Filled) (k : ℕ)
    (w : ListsLeft tags values memo x run literals₀ ends₀ from literals ends f k) where
  pub lists-added : length run ≤ k → Adds (cnf_and (run_of tags values run)) literals₀ ends₀ from.clauses from.literals literals ends f
  lists-added h =
      let none : [] ≡ drop k run = sym (drop_of_length-le run h) in
      w.then literals ends f (subst (λ (l : List ℕ). Adds (cnf_and (run_of tags values l)) literals ends f.clauses f.literals literals ends f) none (no-clause [] refl literals ends f))

  module _ (h : k < length run) where
    abbrev after : List ℕ
    after = drop (k + 1) run

    rest-is : drop k run ≡ get_or run k 0 ∷ drop (k + 1) run
    rest-is = rw (add-one k) (drop-cons run k 0 h)

    split : AskLists tags values memo x (get_or run k 0 ∷ after) literals ends f.clauses f.literals
    split = subst (λ (l : List ℕ). AskLists tags values memo x l literals ends f.clauses f.literals) rest-is w.ask

    pub list-ask : AskMore tags values memo (get_or run k 0 ∷ []) (cnf (form_at tags values (get_or run k 0))) literals ends f.clauses f.literals
    list-ask = head-ask tags values memo x (get_or run k 0) after literals ends f.clauses f.literals split

    pub lists-next : (literals₁ ends₁ : List ℕ) (g : Filled) → Adds (cnf (form_at tags values (get_or run k 0))) literals ends f.clauses f.literals literals₁ ends₁ g
        → ListsLeft tags values memo x run literals₀ ends₀ from literals₁ ends₁ g (k + 1)
    lists-next literals₁ ends₁ g a = record {
      ask = tail-ask tags values memo x (get_or run k 0) after literals ends f.clauses f.literals split literals₁ ends₁ g a;
      then = λ literals₂ ends₂ m b.
          w.then literals₂ ends₂ m
          (subst (λ (l : List ℕ). Adds (cnf_and (run_of tags values l)) literals ends f.clauses f.literals literals₂ ends₂ m) (sym rest-is)
          (both-added tags values memo x (get_or run k 0) after literals ends f.clauses f.literals split literals₁ ends₁ g a literals₂ ends₂ m b));
    }
