-- The least number that passes a test (N1), from crate `bytes`.
-- Assumes nothing.
unfoldable pub use Rattle.octets.specs.Search.{least_of, from, passes}
