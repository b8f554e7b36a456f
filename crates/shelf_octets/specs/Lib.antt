pub mod ShelfOctets
