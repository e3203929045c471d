pub mod Turning
pub use Rattle.dl_board.specs.Boards
pub use Rattle.dl_edition.specs.Offices
