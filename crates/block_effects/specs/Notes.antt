-- What a source says of a part of a block.
use Rattle.std.specs.Prelude.{ℕ, Bool, ◌||◌, List, Option, is_some}

-- the bytes between the quotes of its `name` and `desc`
pub record Said : Type 0 where
  pub name : Option (List ℕ)
  pub desc : Option (List ℕ)

abbrev pub is_said : Said → Bool
is_said said = is_some said.name || is_some said.desc

-- an address map or register file of this path
pub record SaidGroup : Type 0 where
  pub path : List ℕ
  pub said : Said

-- Lists of parts are in the order of the block's; of groups, those that something is said of, in the order of the text. Of each
-- enumeration that fields are encoded by, a list of its entries in order.
pub record AllSaid : Type 0 where
  pub top : Said
  pub regs : List Said
  pub views : List Said
  pub signals : List Said
  pub groups : List SaidGroup
  pub enums : List (List Said)
