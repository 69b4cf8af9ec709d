-- IRNodeKey::new of ir_node_key.rs.
use Rattle.std.specs.Prelude.{ℕ, if◌then◌else◌}
use Rattle.plan.specs.declared.ir.IR.{IR}
use Rattle.plan.specs.Kinds.{same_ir}
use Rattle.plan.specs.Sheet.{Step}
use Rattle.ir_graph.specs.declared.ir_node_key.IRNodeKey.{IRNodeKey}

-- of the step s on line n
abbrev pub node_key : Step → ℕ → IRNodeKey
node_key s n = if same_ir s.kind IR.Cache then IRNodeKey.CacheId s.a else IRNodeKey.Node n
