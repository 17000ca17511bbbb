pub mod Rounds
pub mod Tops
pub mod Every
pub mod Pieces
pub mod Listed
