mod Topping
