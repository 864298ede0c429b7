-- What an assignment gives, put into the entries of nodes.
use Rattle.std.specs.Prelude.{◌≡◌, ◌≢◌, ◌<◌, ◌==◌, ℕ, cond, List, [], ◌++◌, length, Vec}
use Rattle.std.specs.Global.{Global}
use Rattle.std.specs.List.{list_any}
use Rattle.rdl_values.specs.Instances.{Instance}
use Rattle.rdl_assignments.specs.Layers.{IsGiven}
use Rattle.rdl_assignments.specs.declared.set.ValidAssignment.{ValidAssignment}
use Rattle.rdl_layers.specs.Meanings.{Assignment}
use Rattle.rdl_layers.specs.Says.{IsScopeNumber}
use Rattle.rdl_layers.specs.Settings.{Applied, gives}
use Rattle.rdl_layers.specs.Tables.{entries_at}
use Rattle.rdl_layers.specs.declared.props.PropSetting.{PropSetting}
use Rattle.rdl_layers.specs.declared.rank.Rank.{Rank}
use Rattle.rdl_merge.specs.Merged.{AreEntries}

-- What the assignment gives at a rank is put behind the entries of the node of this number, and nothing else changes. The assignment
-- stands in the body of a number.
pub record PushesAt (k : ℕ) (g : ValidAssignment) (body : ℕ) (old new : List (Vec PropSetting Global)) : Type 0 where
  pub same_length : length new ≡ length old
  pub others : (j : ℕ) → j ≢ k → entries_at new j ≡ entries_at old j
  pub here : (all : List Instance) (xs : List Applied) (judged : ℕ) (a : Assignment) (rank : Rank) → k < length old → IsGiven judged g a → IsScopeNumber all a.scope body
      → AreEntries all (entries_at old k) xs → AreEntries all (entries_at new k) (xs ++ gives rank a)

-- The same of nodes.
pub record PushesAll (ks : List ℕ) (g : ValidAssignment) (body : ℕ) (old new : List (Vec PropSetting Global)) : Type 0 where
  pub same_length : length new ≡ length old
  pub pushed : (all : List Instance) (xs : List Applied) (judged : ℕ) (a : Assignment) (rank : Rank) (j : ℕ) → j < length old → IsGiven judged g a → IsScopeNumber all a.scope body
      → AreEntries all (entries_at old j) xs → AreEntries all (entries_at new j) (xs ++ cond (list_any (λ k. k == j) ks) (gives rank a) [])
