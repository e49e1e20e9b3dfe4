-- How many numbers of a range pass a test: ranges one behind the other, and ranges that pass alike.
use Rattle.std.proofs.Common.{◌≡◌, ℕ, ◌+◌, ◌<◌, Bool, cond, zero, suc, refl, sym, ap, ◌∙◌, zero-add, arith}
use Rattle.std.specs.List.{count_by, range_with_len}
use Rattle.std.proofs.lemmas.List.Sums.{sum_by-cons, sum_by-append}
use Rattle.edge_file.proofs.ByteLaws.{range-append}

pub count-append : (f : ℕ → Bool) (a n m : ℕ) → count_by f (range_with_len a (n + m)) ≡ count_by f (range_with_len a n) + count_by f (range_with_len (a + n) m)
count-append f a n m = ap (count_by f) (range-append a n m) ∙ sum_by-append (λ x. cond (f x) 1 0) (range_with_len a n) (range_with_len (a + n) m)

pub count-one : (f : ℕ → Bool) (a : ℕ) → count_by f (range_with_len a 1) ≡ cond (f a) 1 0
count-one f a = zero-add (cond (f a) 1 0)

-- one number more
pub count-more : (f : ℕ → Bool) (a n k : ℕ) → a + n ≡ k → count_by f (range_with_len a (n + 1)) ≡ count_by f (range_with_len a n) + cond (f k) 1 0
count-more f a n k e = count-append f a n 1 ∙ ap (λ (m : ℕ). count_by f (range_with_len a n) + count_by f (range_with_len m 1)) e ∙ ap (λ (m : ℕ). count_by f (range_with_len a n) + m) (count-one f k)

-- ranges whose numbers pass alike
pub count-alike : (f h : ℕ → Bool) (a b n : ℕ) → ((k : ℕ) → k < n → f (a + k) ≡ h (b + k)) → count_by f (range_with_len a n) ≡ count_by h (range_with_len b n)
count-alike f h a b zero same = refl
count-alike f h a b (suc n) same =
    let here : f a ≡ h b = ap f (let e : a ≡ a + 0 = omega arith in e) ∙ same 0 (omega arith) ∙ ap h (let e : b + 0 ≡ b = omega arith in e) in
    let rest = count-alike f h (a + 1) (b + 1) n (λ k low.
    ap f (let e : a + 1 + k ≡ a + (k + 1) = omega arith in e) ∙ same (k + 1) (omega arith) ∙ ap h (let e : b + (k + 1) ≡ b + 1 + k = omega arith in e)) in
    sum_by-cons (λ x. cond (f x) 1 0) a (range_with_len (a + 1) n)
    ∙ (λ i. cond (here i) 1 0 + rest i)
    ∙ sym (sum_by-cons (λ x. cond (h x) 1 0) b (range_with_len (b + 1) n))
