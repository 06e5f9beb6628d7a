-- The names that proofs speak by.
pub use Rattle.std.proofs.Common.{◌≡◌, ◌++◌, map, drop}
pub use Rattle.json.specs.{Tree.items_tokens, Value.items_of}
