-- What addresses are rounded up to.
use Rattle.std.specs.Prelude.{◌≡◌, ℕ, zero, suc, ◌+◌, ◌-◌, ◌*◌, ◌<◌, ◌≤◌, ◌%◌, ◌^◌, Bool, true, false, nat_le, ◌==◌}

-- What the least number from n on that passes a test is.
pub record IsLeastFrom (n : ℕ) (test : ℕ → Bool) (x : ℕ) : Type 0 where
  pub from : n ≤ x
  pub passes : test x ≡ true
  pub none_before : (y : ℕ) → n ≤ y → y < x → test y ≡ false

abbrev pub is_multiple : ℕ → ℕ → Bool
is_multiple m x = x % m == 0

-- the least multiple of m, which isn't 0, at or after n
abbrev pub multiple_from : ℕ → ℕ → ℕ
multiple_from m n = n + (m - n % m) % m

abbrev pub holds : ℕ → ℕ → Bool
holds n i = nat_le n (2 ^ i)

-- The first number from p on that is at least n, each tried being twice the one before it, and no more than so many tried.
-- The rest is a function, so that computing stops where one is found.
abbrev pub doubled : ℕ → ℕ → ℕ → ℕ
doubled zero n p = p
doubled (suc k) n p = go (nat_le n p) p (λ q. doubled k n q)
  where
    go : Bool → ℕ → (ℕ → ℕ) → ℕ
    go true p rest = p
    go false p rest = rest (2 * p)

-- the least power of two that is at least n
abbrev pub up : ℕ → ℕ
up n = doubled n n 1

-- What the least power of two that is at least a number is.
abbrev pub IsLeastPower : ℕ → ℕ → Type 0
IsLeastPower n x = (i : ℕ) × (x ≡ 2 ^ i) × IsLeastFrom 0 (holds n) i
