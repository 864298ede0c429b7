-- What a field keeps, from one edge to the next.
use Rattle.std.specs.Prelude.{ℕ, Bool, if◌then◌else◌, unwrap_or}
use Rattle.rb_model.specs.declared.block.Field.{Field}
use Rattle.rb_model.specs.Kept.{is_storage, keeps_last}
use Rattle.rb_model.specs.Items.{Now, ItemValues, source_value}
use Rattle.rb_model.specs.declared.block.Block.{Block}
use Rattle.rb_model.specs.Machine.{hardware, is_asserted}
use Rattle.rb_machine.specs.declared.sight.FieldState.{FieldState}

-- under reset or not
abbrev pub reset_state : Field → Bool → FieldState → FieldState
reset_state f asserted x = record {
  value = if asserted then unwrap_or f.reset x.value else x.value;
  last = if asserted then 0 else x.last;
  done = if asserted then 0 else x.done;
}

-- before software, where software has the last word behind hardware
abbrev pub started_state : Now → ItemValues → ℕ → Field → FieldState → FieldState
started_state n v k f x = record {
  value = if f.hw_first then x.value else hardware n v k f x.value;
  last = source_value n v f;
  done = x.done;
}

-- before software, where hardware has acted and the last input stays
abbrev pub begun_state : Now → ItemValues → ℕ → Field → FieldState → FieldState
begun_state n v k f x = record { value = hardware n v k f x.value; last = x.last; done = x.done }

-- behind software, where hardware has the last word
abbrev pub ended_state : Now → ItemValues → ℕ → Field → FieldState → FieldState
ended_state n v k f x = record { value = if f.hw_first then hardware n v k f x.value else x.value; last = x.last; done = x.done }

-- what a field keeps of it
abbrev pub kept_state : Field → FieldState → FieldState
kept_state f x = record {
  value = if is_storage f.class then x.value else 0;
  last = if keeps_last f.latch then x.last else 0;
  done = if f.once then x.done else 0;
}

-- what a field keeps after an edge, of what software left
abbrev pub next_state : Block → Now → ItemValues → ℕ → Field → FieldState → FieldState
next_state b n v k f x = kept_state f (reset_state f (is_asserted b n.pins f.reset_by) (ended_state n v k f x))
