pub mod TableMoves
