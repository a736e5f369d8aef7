-- A push appends, while there is a place for it. Assumes nothing.
use mathlib.Core.Path.{◌≡◌, refl, sym, ap, ◌∙◌}
use mathlib.Core.List.{List, [], ◌∷◌, ◌++◌, append_assoc, append-nil}
use Prim.Native.Nat.{ℕ, zero, suc, ◌+◌, ◌<◌, ◌≤◌}
use native.Mathlib.Omega.{arith}
use borrow.Author.Tests.{lt-leb}
use lib.ListN.{length, set, length-append}
use Rattle.laws.specs.Pick.{pick}
use Rattle.shown.specs.Shown.{padded, shown, pushed, pushed_all}
use Rattle.shown.specs.declared.Shown.{Shown}
use Rattle.shown.proofs.Few.{Few}

padded_set : (n : ℕ) (vs : List ℕ) (x : ℕ) → length vs < n → set (padded n vs) (length vs) x ≡ padded n (vs ++ (x ∷ []))
unfolding padded
padded_set zero vs x l = absurd (omega (arith, l))
padded_set (suc n) [] x l = refl
padded_set (suc n) (v ∷ vs) x l = ap (λ (w : List ℕ). v ∷ w) (padded_set n vs x (omega (arith, l)))

length_one_more : (vs : List ℕ) (x : ℕ) → length (vs ++ (x ∷ [])) ≡ length vs + 1
length_one_more [] x = refl
length_one_more (v ∷ vs) x = let e = length_one_more vs x in omega (arith, e)

pub push_appends : (n : ℕ) (vs : List ℕ) (x : ℕ) → length vs < 12 → pushed (shown n vs) x ≡ shown n (vs ++ (x ∷ []))
unfolding pushed pick
push_appends n vs x l = rw (lt-leb 12 (length vs) l, padded_set 12 vs x l, length_one_more vs x)

-- and so do pushes
pub pushes_append : (n : ℕ) (vs ws : List ℕ) → length vs + length ws ≤ 12 → pushed_all (shown n vs) ws ≡ shown n (vs ++ ws)
unfolding pushed_all
pushes_append n vs [] h = ap (shown n) (sym (append-nil vs))
pushes_append n vs (w ∷ ws) h =
    ap (λ (s : Shown). pushed_all s ws) (push_appends n vs w (omega arith))
    ∙ pushes_append n (vs ++ (w ∷ [])) ws (let e = length_one_more vs w in omega arith)
    ∙ ap (shown n) (append_assoc vs (w ∷ []) ws)

-- four lists, one after the other, from none on
module _ {n : ℕ} {s x y z r : Shown} (none : s ≡ shown n []) where
  pub four_pushed : (a b c d : List ℕ) → Few (a ++ b ++ c ++ d)
      → x ≡ pushed_all s a → y ≡ pushed_all x b → z ≡ pushed_all y c → r ≡ pushed_all z d → r ≡ shown n (a ++ b ++ c ++ d)
  four_pushed a b c d h ea eb ec ed =
      let l : length a + length b + length c + length d ≤ 12 = simp length-append at h in
      rw (ed, ec, eb, ea, none, pushes_append n [] a (omega arith), pushes_append n a b (omega arith), pushes_append n (a ++ b) c (rw length-append (omega arith)), pushes_append n ((a ++ b) ++ c) d (simp length-append (omega arith)))
