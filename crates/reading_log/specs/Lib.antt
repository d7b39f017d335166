pub mod Bar
